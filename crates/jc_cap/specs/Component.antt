-- Whole components: the tag, the size, and the info, which is read by the tag.
use Rattle.std.specs.Prelude.{◌≡◌, ◌≢◌, ℕ, List, Result, Ok, ◌==◌, if◌then◌else◌}
use Rattle.jc_cap.specs.declared.fault.CapFault.{CapFault}
use Rattle.jc_cap.specs.declared.formats.Format.{Format}
use Rattle.jc_cap.specs.Reading.{◌>>=◌, value_of_whole}
use Rattle.jc_cap.specs.Envelope.{info_at, IsEnvelope}
use Rattle.jc_cap.specs.Header.{header_at, IsHeader}
use Rattle.jc_cap.specs.Directory.{directory_at, IsDirectory}
use Rattle.jc_cap.specs.Applets.{applets_at, IsApplets}
use Rattle.jc_cap.specs.Imports.{imports_at, IsImports}
use Rattle.jc_cap.specs.Pool.{pool_at, IsPool}
use Rattle.jc_cap.specs.Exports.{exports_at, IsExports}
use Rattle.jc_cap.specs.Tags.{header_tag, directory_tag, applet_tag, import_tag, constant_pool_tag, class_tag, method_tag, static_field_tag, export_tag}
use Rattle.jc_cap.specs.ClassReading.{classes_of}
use Rattle.jc_cap.specs.Classes.{AreClasses}
use Rattle.jc_cap.specs.MethodReading.{methods_of}
use Rattle.jc_cap.specs.Methods.{AreMethods}
use Rattle.jc_cap.specs.StaticReading.{statics_at}
use Rattle.jc_cap.specs.Statics.{AreStatics}
use Rattle.jc_cap.specs.Contents.{Content}
use Rattle.jc_cap.specs.Contents as contents

-- what is read, as a component's content
abbrev pub content_result : {A : Type 0} → (A → Content) → Result A CapFault → Result Content CapFault
content_result wrap read = read >>= λ x. Ok (wrap x)

-- what the info of the component with this tag says, of a Directory and a Class component in this format; the infos of ReferenceLocation, Descriptor, Debug and custom components are not looked at
unfoldable pub content_at : Format → ℕ → List ℕ → Result Content CapFault
content_at format tag info =
    if tag == header_tag then content_result contents.header (value_of_whole (header_at info))
    else if tag == directory_tag then content_result contents.directory (value_of_whole (directory_at format info))
    else if tag == applet_tag then content_result contents.applets (value_of_whole (applets_at info))
    else if tag == import_tag then content_result contents.imports (value_of_whole (imports_at info))
    else if tag == constant_pool_tag then content_result contents.pool (value_of_whole (pool_at info))
    else if tag == class_tag then content_result contents.classes (classes_of format info)
    else if tag == method_tag then content_result contents.methods (methods_of info)
    else if tag == static_field_tag then content_result contents.statics (value_of_whole (statics_at info))
    else if tag == export_tag then content_result contents.exports (value_of_whole (exports_at info))
    else Ok contents.unused

-- first the tag and the size, then the info
unfoldable pub component_at : Format → ℕ → List ℕ → Result Content CapFault
component_at format tag bytes = do
  info ← info_at tag bytes
  content_at format tag info

-- the info of the component with this tag says this
abbrev pub IsContent : Format → ℕ → Content → List ℕ → Type 0
IsContent format tag (contents.header h) info = (tag ≡ header_tag) × IsHeader h info
IsContent format tag (contents.directory d) info = (tag ≡ directory_tag) × IsDirectory format d info
IsContent format tag (contents.applets xs) info = (tag ≡ applet_tag) × IsApplets xs info
IsContent format tag (contents.imports xs) info = (tag ≡ import_tag) × IsImports xs info
IsContent format tag (contents.pool xs) info = (tag ≡ constant_pool_tag) × IsPool xs info
IsContent format tag (contents.classes xs) info = (tag ≡ class_tag) × AreClasses format xs info
IsContent format tag (contents.methods m) info = (tag ≡ method_tag) × AreMethods m info
IsContent format tag (contents.statics s) info = (tag ≡ static_field_tag) × AreStatics s info
IsContent format tag (contents.exports xs) info = (tag ≡ export_tag) × IsExports xs info
IsContent format tag contents.unused info = (tag ≢ header_tag) × (tag ≢ directory_tag) × (tag ≢ applet_tag) × (tag ≢ import_tag) × (tag ≢ constant_pool_tag)
    × (tag ≢ class_tag) × (tag ≢ method_tag) × (tag ≢ static_field_tag) × (tag ≢ export_tag)

-- the whole text is the component with this tag that says this
abbrev pub IsComponent : Format → ℕ → Content → List ℕ → Type 0
IsComponent format tag content text = (info : List ℕ) × IsEnvelope tag info text × IsContent format tag content info
