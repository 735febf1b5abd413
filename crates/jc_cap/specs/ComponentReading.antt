-- Reading one component of a package, its tag and its size first.
use Rattle.std.specs.Prelude.{ℕ, List, Option, Some, None, Result, Ok}
use Rattle.jc_cap.specs.declared.fault.CapFault.{CapFault}
use Rattle.jc_cap.specs.declared.formats.Format.{Format}
use Rattle.jc_cap.specs.Reading.{◌>>=◌, value_of_whole}
use Rattle.jc_cap.specs.Packages.{NamedPackage}
use Rattle.jc_cap.specs.Envelope.{info_at}
use Rattle.jc_cap.specs.Header.{HeaderValue, header_at}
use Rattle.jc_cap.specs.declared.directory.Directory.{Directory}
use Rattle.jc_cap.specs.Directory.{directory_at}
use Rattle.jc_cap.specs.Applets.{AppletNamed, applets_at}
use Rattle.jc_cap.specs.Imports.{imports_at}
use Rattle.jc_cap.specs.declared.pool.Entry.{Entry}
use Rattle.jc_cap.specs.Pool.{pool_at}
use Rattle.jc_cap.specs.declared.exports.ExportedClass.{ExportedClass}
use Rattle.jc_cap.specs.Exports.{exports_at}
use Rattle.jc_cap.specs.Tags.{header_tag, directory_tag, applet_tag, import_tag, constant_pool_tag, class_tag, method_tag, static_field_tag, export_tag}
use Rattle.jc_cap.specs.ClassValues.{RecordAt}
use Rattle.jc_cap.specs.ClassReading.{classes_of}
use Rattle.jc_cap.specs.Methods.{MethodParts}
use Rattle.jc_cap.specs.MethodReading.{methods_of}
use Rattle.jc_cap.specs.StaticValues.{StaticParts}
use Rattle.jc_cap.specs.StaticReading.{statics_at}

abbrev pub header_in : List ℕ → Result HeaderValue CapFault
header_in text = info_at header_tag text >>= λ info. value_of_whole (header_at info)

abbrev pub directory_in : Format → List ℕ → Result Directory CapFault
directory_in format text = info_at directory_tag text >>= λ info. value_of_whole (directory_at format info)

abbrev pub applets_in : Option (List ℕ) → Result (Option (List AppletNamed)) CapFault
applets_in None = Ok None
applets_in (Some text) = info_at applet_tag text >>= λ info. value_of_whole (applets_at info) >>= λ x. Ok (Some x)

abbrev pub imports_in : List ℕ → Result (List NamedPackage) CapFault
imports_in text = info_at import_tag text >>= λ info. value_of_whole (imports_at info)

abbrev pub pool_in : List ℕ → Result (List Entry) CapFault
pool_in text = info_at constant_pool_tag text >>= λ info. value_of_whole (pool_at info)

abbrev pub classes_in : Format → List ℕ → Result (List RecordAt) CapFault
classes_in format text = info_at class_tag text >>= λ info. classes_of format info

abbrev pub methods_in : List ℕ → Result MethodParts CapFault
methods_in text = info_at method_tag text >>= λ info. methods_of info

abbrev pub statics_in : List ℕ → Result StaticParts CapFault
statics_in text = info_at static_field_tag text >>= λ info. value_of_whole (statics_at info)

abbrev pub exports_in : Option (List ℕ) → Result (Option (List ExportedClass)) CapFault
exports_in None = Ok None
exports_in (Some text) = info_at export_tag text >>= λ info. value_of_whole (exports_at info) >>= λ x. Ok (Some x)
