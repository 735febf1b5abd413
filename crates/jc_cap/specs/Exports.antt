-- The Export component.
use Rattle.std.specs.Prelude.{◌≡◌, ℕ, List, ◌∷◌, ◌++◌, length, Ok}
use Rattle.jc_cap.specs.declared.exports.ExportedClass.{ExportedClass}
use Rattle.jc_cap.specs.Reading.{◌>>=◌, Field, u1_at, u2_at, many_at}
use Rattle.jc_cap.specs.Grammar.{AreEncodedInTurn, IsU2}

unfoldable pub exported_class_at : List ℕ → Field ExportedClass
exported_class_at bytes = do
  class ← u2_at bytes
  fields ← u1_at class.1
  methods ← u1_at fields.1
  field_offsets ← many_at u2_at fields.0 methods.1
  method_offsets ← many_at u2_at methods.0 field_offsets.1
  Ok (record { class_offset = class.0; static_field_offsets = field_offsets.0; static_method_offsets = method_offsets.0 }, method_offsets.1)

unfoldable pub exports_at : List ℕ → Field (List ExportedClass)
exports_at bytes = do
  count ← u1_at bytes
  many_at exported_class_at count.0 count.1

-- the class's offset, two bytes of counts, the offsets of the static fields and those of the static methods
abbrev pub IsExportedClass : ExportedClass → List ℕ → Type 0
IsExportedClass e text = (class : List ℕ) × (fields : List ℕ) × (methods : List ℕ) × IsU2 e.class_offset class
    × AreEncodedInTurn IsU2 e.static_field_offsets fields × AreEncodedInTurn IsU2 e.static_method_offsets methods
    × (text ≡ class ++ (length e.static_field_offsets ∷ length e.static_method_offsets ∷ (fields ++ methods)))

-- a byte of count, and then the classes
abbrev pub IsExports : List ExportedClass → List ℕ → Type 0
IsExports es text = (classes : List ℕ) × AreEncodedInTurn IsExportedClass es classes × (text ≡ length es ∷ classes)
