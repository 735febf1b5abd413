-- What is known of a package that is put together, and how it is.
use Rattle.std.specs.Prelude.{◌≡◌, ◌⊎◌, ℕ, List, Contains, Option, Some, None, Ok, Bool, Result, Err, if◌then◌else◌}
use Rattle.std.specs.List.{All}
use Rattle.jc_cap.specs.declared.class_refs.ClassRef.{ClassRef}
use Rattle.jc_cap.specs.Applets.{AppletNamed}
use Rattle.jc_cap.specs.declared.exports.ExportedClass.{ExportedClass}
use Rattle.jc_cap.specs.declared.pool.StaticRef.{StaticRef}
use Rattle.jc_cap.specs.declared.pool.Entry.{Entry}
use Rattle.jc_cap.specs.declared.class_records.ClassRecord.{ClassRecord}
use Rattle.jc_cap.specs.ClassValues.{RecordAt, offsets_of, contents_of}
use Rattle.jc_cap.specs.Classes.{AreClasses}
use Rattle.jc_cap.specs.Statics.{AreStatics}
use Rattle.jc_cap.specs.Methods.{MethodParts, MethodText}
use Rattle.jc_cap.specs.MethodReading.{method_at}
use Rattle.jc_cap.specs.declared.texts.PackageBytes.{PackageBytes}
use Rattle.jc_cap.specs.Contents.{PackageContents}
use Rattle.jc_cap.specs.declared.fault.CapFault.{CapFault}
use Rattle.jc_cap.specs.declared.fault.CapFault.TheVariants.{Missing, SizesDisagree, BadOffset}
use Rattle.jc_cap.specs.Reading.{◌>>=◌}
use Rattle.jc_cap.specs.Tags.{header_tag, directory_tag, applet_tag, import_tag, constant_pool_tag, class_tag, method_tag, static_field_tag, export_tag}
use Rattle.jc_cap.specs.declared.texts.LoadedComponents.{LoadedComponents}
use Rattle.jc_cap.specs.ComponentReading.{header_in}
use Rattle.jc_cap.specs.Sizes.{sizes_agree}
use Rattle.jc_cap.specs.Fitting.{offsets_fit}
use Rattle.jc_cap.specs.declared.class_refs.ClassRef.TheVariants as classes
use Rattle.jc_cap.specs.declared.pool.StaticRef.TheVariants as statics
use Rattle.jc_cap.specs.declared.pool.Entry.TheVariants as entries
use Rattle.jc_cap.specs.declared.class_records.ClassRecord.TheVariants as records
use Rattle.jc_cap.specs.PackageReading as reading

-- a record begins at this offset
abbrev pub NamesClass : List RecordAt → ℕ → Type 0
NamesClass placed offset = Contains (offsets_of placed) offset

-- after the handlers, with room for its header, a method begins at this offset
abbrev pub NamesMethod : MethodParts → ℕ → Type 0
NamesMethod methods offset = (m : MethodText) × (method_at methods offset ≡ Some m)

abbrev pub ClassNamed : List RecordAt → ClassRef → Type 0
ClassNamed placed (classes.Internal offset) = NamesClass placed offset
ClassNamed placed (classes.External package_token class_token) = Unit {0}

abbrev pub MethodNamed : MethodParts → StaticRef → Type 0
MethodNamed methods (statics.Internal offset) = NamesMethod methods offset
MethodNamed methods (statics.External package_token class_token token) = Unit {0}

-- what the entry says of this package is there
abbrev pub EntryNamed : List RecordAt → MethodParts → Entry → Type 0
EntryNamed placed methods (entries.Class c) = ClassNamed placed c
EntryNamed placed methods (entries.InstanceField c token) = ClassNamed placed c
EntryNamed placed methods (entries.VirtualMethod c token) = ClassNamed placed c
EntryNamed placed methods (entries.SuperMethod c token) = ClassNamed placed c
EntryNamed placed methods (entries.StaticField s) = Unit {0}
EntryNamed placed methods (entries.StaticMethod s) = MethodNamed methods s

-- 65535 is a method that is inherited from another package's class
abbrev pub PublicNamed : MethodParts → ℕ → Type 0
PublicNamed methods offset = (offset ≡ 65535) ⊎ NamesMethod methods offset

abbrev pub RecordNamed : MethodParts → ClassRecord → Type 0
RecordNamed methods (records.Interface i) = Unit {0}
RecordNamed methods (records.Class c) = All (PublicNamed methods) c.tables.public_methods × All (NamesMethod methods) c.tables.package_methods

abbrev pub AppletNames : MethodParts → AppletNamed → Type 0
AppletNames methods a = NamesMethod methods a.install_method_offset

abbrev pub ExportNames : List RecordAt → MethodParts → ExportedClass → Type 0
ExportNames placed methods e = NamesClass placed e.class_offset × All (NamesMethod methods) e.static_method_offsets

-- each of them, where there are any
abbrev pub AllIfPresent : {A : Type 0} → (A → Type 0) → Option (List A) → Type 0
AllIfPresent P (Some xs) = All P xs
AllIfPresent P None = Unit {0}

-- What its components say is there: every Class offset names a record, every Method offset a method. The records look back
-- to earlier ones alone, the static image's size adds up, and there is a reference for each initialised array.
pub record IsPackage (t : PackageBytes) : Type 0 where
  pub contents : PackageContents
  pub read : reading.contents_of t ≡ Ok contents
  pub entries : All (EntryNamed contents.classes contents.methods) contents.pool
  pub applets : AllIfPresent (AppletNames contents.methods) contents.applets
  pub exports : AllIfPresent (ExportNames contents.classes contents.methods) contents.exports
  pub tables : All (RecordNamed contents.methods) (contents_of contents.classes)
  pub classes : (info : List ℕ) × AreClasses contents.header.format contents.classes info
  pub statics : (info : List ℕ) × AreStatics contents.statics info

-- ---- A package that is put together of its components

-- a component that every package has
abbrev pub required_component : {A : Type 0} → ℕ → Option A → Result A CapFault
required_component tag (Some text) = Ok text
required_component tag None = Err (Missing tag)

-- one that a flag of the header asks for
abbrev pub flagged_component : {A : Type 0} → ℕ → Bool → Option A → Result (Option A) CapFault
flagged_component tag flag (Some text) = Ok (Some text)
flagged_component tag flag None = if flag then Err (Missing tag) else Ok None

-- whether the header asks for an Export, and for an Applet component
abbrev pub flags_in : List ℕ → Result (Bool × Bool) CapFault
flags_in header = header_in header >>= λ head. Ok (head.exports, head.has_applets)

-- all that a package needs, or the lowest tag that is missing
unfoldable pub required_components : LoadedComponents → Result PackageBytes CapFault
required_components load = do
  header ← required_component header_tag load.header
  directory ← required_component directory_tag load.directory
  flags ← flags_in header
  applets ← flagged_component applet_tag flags.1 load.applets
  imports ← required_component import_tag load.imports
  pool ← required_component constant_pool_tag load.pool
  classes ← required_component class_tag load.classes
  methods ← required_component method_tag load.methods
  statics ← required_component static_field_tag load.statics
  exports ← flagged_component export_tag flags.0 load.exports
  Ok (record {
    header = header;
    directory = directory;
    applets = applets;
    imports = imports;
    pool = pool;
    classes = classes;
    methods = methods;
    statics = statics;
    exports = exports;
    reference_location = load.reference_location;
    descriptor = load.descriptor;
  })

-- ---- the whole

-- first what a component says that cannot be read, then sizes, then offsets
unfoldable pub checked_package : PackageBytes → Result (Unit {0}) CapFault
checked_package texts = do
  contents ← reading.contents_of texts
  if sizes_agree texts contents then (if offsets_fit contents then Ok tt else Err BadOffset) else Err SizesDisagree

-- before all what is missing
unfoldable pub assembly_of : LoadedComponents → Result PackageBytes CapFault
assembly_of load = do
  texts ← required_components load
  good ← checked_package texts
  Ok texts
