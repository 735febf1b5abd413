-- The Directory component.
use Rattle.std.specs.Prelude.{◌≡◌, ℕ, List, ◌∷◌, ◌++◌, length, Ok}
use Rattle.jc_cap.specs.declared.formats.Format.{Format}
use Rattle.jc_cap.specs.declared.formats.Format.TheVariants.{V2_1, V2_2}
use Rattle.jc_cap.specs.declared.directory.Directory.{Directory}
use Rattle.jc_cap.specs.declared.directory.StaticFieldSize.{StaticFieldSize}
use Rattle.jc_cap.specs.Reading.{◌>>=◌, Field, u1_at, u2_at, many_at}
use Rattle.jc_cap.specs.Grammar.{AreEncodedInTurn, IsU2}
use Rattle.jc_cap.specs.Customs.{custom_at, IsCustom}

-- how many sizes a directory has; the twelfth is that of the Debug component
abbrev pub sizes_of : Format → ℕ
sizes_of V2_1 = 11
sizes_of V2_2 = 12

-- three times two bytes
unfoldable pub static_field_size_at : List ℕ → Field StaticFieldSize
static_field_size_at bytes = do
  image ← u2_at bytes
  arrays ← u2_at image.1
  size ← u2_at arrays.1
  Ok (record { image_size = image.0; array_init_count = arrays.0; array_init_size = size.0 }, size.1)

unfoldable pub directory_at : Format → List ℕ → Field Directory
directory_at format bytes = do
  sizes ← many_at u2_at (sizes_of format) bytes
  statics ← static_field_size_at sizes.1
  imports ← u1_at statics.1
  applets ← u1_at imports.1
  count ← u1_at applets.1
  customs ← many_at custom_at count.0 count.1
  Ok (
    record { component_sizes = sizes.0; static_field_size = statics.0; import_count = imports.0; applet_count = applets.0; custom_components = customs.0 },
    customs.1,
  )

abbrev pub IsStaticFieldSize : StaticFieldSize → List ℕ → Type 0
IsStaticFieldSize s text = (image : List ℕ) × (arrays : List ℕ) × (size : List ℕ) × IsU2 s.image_size image × IsU2 s.array_init_count arrays
    × IsU2 s.array_init_size size × (text ≡ image ++ (arrays ++ size))

-- the sizes, what is said of the static image, three bytes of counts, the custom components
abbrev pub IsDirectory : Format → Directory → List ℕ → Type 0
IsDirectory format d text = (sizes : List ℕ) × (statics : List ℕ) × (customs : List ℕ)
    × AreEncodedInTurn IsU2 d.component_sizes sizes × (length d.component_sizes ≡ sizes_of format) × IsStaticFieldSize d.static_field_size statics
    × AreEncodedInTurn IsCustom d.custom_components customs
    × (text ≡ sizes ++ (statics ++ (d.import_count ∷ d.applet_count ∷ length d.custom_components ∷ customs)))
