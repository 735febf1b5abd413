-- Offsets that fit name records and methods.
use Rattle.std.proofs.Common.{◌≡◌, ℕ, zero, suc, ◌<◌, Bool, true, false, ◌&&◌, ◌||◌, eqb, List, [], ◌∷◌, length, slice_index_or, Option, Some, None, Result, Ok}
use Rattle.std.proofs.Common.{Err, refl, sym, ◌∙◌, subst, arith, inl, inr, ◌⊎◌}
use Rattle.std.specs.Prelude.{IfOk, is_some}
use Rattle.std.proofs.lemmas.Bool.{eqb-true}
use Rattle.jc_cap.specs.declared.fault.CapFault.{CapFault}
use Rattle.jc_cap.specs.declared.fault.CapFault.TheVariants.{SizesDisagree, BadOffset}
use Rattle.jc_cap.specs.declared.class_refs.ClassRef.{ClassRef}
use Rattle.jc_cap.specs.declared.class_refs.ClassRef.TheVariants as classes
use Rattle.jc_cap.specs.Reading.{ParsesAs}
use Rattle.jc_cap.proofs.Many.{bind_ok, ok_is}
use Rattle.jc_cap.proofs.Telling.{wanted_ok}
use Rattle.jc_cap.proofs.Wholes.{whole_takes}
use Rattle.jc_cap.specs.Envelope.{info_at}
use Rattle.jc_cap.specs.declared.exports.ExportedClass.{ExportedClass}
use Rattle.jc_cap.specs.declared.pool.StaticRef.{StaticRef}
use Rattle.jc_cap.specs.declared.pool.StaticRef.TheVariants as statics
use Rattle.jc_cap.specs.declared.pool.Entry.{Entry}
use Rattle.jc_cap.specs.declared.pool.Entry.TheVariants as entries
use Rattle.jc_cap.specs.declared.class_records.ClassRecord.{ClassRecord}
use Rattle.jc_cap.specs.declared.class_records.ClassRecord.TheVariants as records
use Rattle.jc_cap.specs.ClassValues.{RecordAt, offsets_of, contents_of}
use Rattle.jc_cap.specs.Classes.{AreClasses}
use Rattle.jc_cap.specs.ClassReading.{is_among, classes_of}
use Rattle.jc_cap.specs.StaticReading.{statics_at}
use Rattle.jc_cap.specs.Statics.{AreStatics}
use Rattle.jc_cap.specs.Methods.{MethodParts}
use Rattle.jc_cap.specs.MethodReading.{method_at, has_room}
use Rattle.jc_cap.specs.Tables as tables
use Rattle.jc_cap.specs.Tables.{all_of_list, tables_fit}
use Rattle.jc_cap.proofs.Among.{among_contains}
use Rattle.jc_cap.proofs.RecordWalk.{classes_take}
use Rattle.jc_cap.proofs.StaticTelling.{statics_tells}
use Rattle.jc_cap.specs.declared.texts.PackageBytes.{PackageBytes}
use Rattle.jc_cap.specs.declared.texts.LoadedComponents.{LoadedComponents}
use Rattle.jc_cap.specs.Contents.{PackageContents}
use Rattle.jc_cap.specs.PackageReading as reading
use Rattle.jc_cap.specs.ComponentReading.{header_in, directory_in, applets_in, imports_in, pool_in, classes_in, methods_in, statics_in, exports_in}
use Rattle.jc_cap.specs.Sizes.{sizes_agree}
use Rattle.jc_cap.specs.Fitting.{class_fits, method_fits, entry_fits, applet_fits, export_fits, all_if_present, offsets_fit}
use Rattle.jc_cap.specs.Assembling.{required_components, checked_package, assembly_of, NamesMethod, ClassNamed, MethodNamed, EntryNamed, PublicNamed}
use Rattle.jc_cap.specs.Assembling.{RecordNamed, AppletNames, ExportNames, AllIfPresent, IsPackage}

both : (a b : Bool) → a && b ≡ true → (a ≡ true) × (b ≡ true)
both true true e = (refl, refl)
both true false e = absurd cc
both false b e = absurd cc

one_of : (a b : Bool) → a || b ≡ true → (a ≡ true) ⊎ (b ≡ true)
one_of true b e = inl refl
one_of false b e = inr e

all_at : {A : Type 0} (test : A → Bool) (P : A → Type 0) → ((x : A) → test x ≡ true → P x) → (xs : List A) → all_of_list test xs ≡ true → (k : ℕ) (d : A)
    → k < length xs → P (slice_index_or xs k d)
all_at test P each [] e k d lt = absurd (omega (arith, lt))
all_at test P each (x ∷ xs) e zero d lt = each x (both (test x) (all_of_list test xs) e).0
all_at test P each (x ∷ xs) e (suc k) d lt = all_at test P each xs (both (test x) (all_of_list test xs) e).1 k d (omega (arith, lt))

all_there : {A : Type 0} (test : A → Bool) (P : A → Type 0) → ((x : A) → test x ≡ true → P x) → (xs : Option (List A)) → all_if_present test xs ≡ true
    → AllIfPresent P xs
all_there test P each (Some xs) e = all_at test P each xs e
all_there test P each None e = tt

is_found : {A : Type 0} (o : Option A) → is_some o ≡ true → (x : A) × (o ≡ Some x)
is_found (Some x) e = (x, refl)
is_found None e = absurd cc

method_there : (methods : MethodParts) (offset : ℕ) → has_room methods offset ≡ true → NamesMethod methods offset
method_there methods offset e = is_found (method_at methods offset) e

class_named : (placed : List RecordAt) (c : ClassRef) → class_fits placed c ≡ true → ClassNamed placed c
class_named placed (classes.Internal offset) e = among_contains offset (offsets_of placed) e
class_named placed (classes.External package_token class_token) e = tt

method_named : (methods : MethodParts) (s : StaticRef) → method_fits methods s ≡ true → MethodNamed methods s
method_named methods (statics.Internal offset) e = method_there methods offset e
method_named methods (statics.External package_token class_token token) e = tt

entry_named : (placed : List RecordAt) (methods : MethodParts) (x : Entry) → entry_fits placed methods x ≡ true → EntryNamed placed methods x
entry_named placed methods (entries.Class c) e = class_named placed c e
entry_named placed methods (entries.InstanceField c token) e = class_named placed c e
entry_named placed methods (entries.VirtualMethod c token) e = class_named placed c e
entry_named placed methods (entries.SuperMethod c token) e = class_named placed c e
entry_named placed methods (entries.StaticField s) e = tt
entry_named placed methods (entries.StaticMethod s) e = method_named methods s e

public_named : (methods : MethodParts) (offset : ℕ) → tables.entry_fits methods true offset ≡ true → PublicNamed methods offset
public_named methods offset e = elim (one_of (eqb offset 65535) (has_room methods offset) e) [
  | inl inherited ↦ inl (eqb-true _ _ inherited)
  | inr room ↦ inr (method_there methods offset room)
]

record_named : (methods : MethodParts) (r : ClassRecord) → tables.record_fits methods r ≡ true → RecordNamed methods r
record_named methods (records.Interface i) e = tt
record_named methods (records.Class c) e =
    let two = both (tables.table_fits methods true c.tables.public_methods) (tables.table_fits methods false c.tables.package_methods) e in (
      all_at (tables.entry_fits methods true) (PublicNamed methods) (public_named methods) c.tables.public_methods two.0,
      all_at (tables.entry_fits methods false) (NamesMethod methods) (method_there methods) c.tables.package_methods two.1,
    )

export_named : (placed : List RecordAt) (methods : MethodParts) (x : ExportedClass) → export_fits placed methods x ≡ true → ExportNames placed methods x
export_named placed methods x e =
    let two = both (is_among x.class_offset (offsets_of placed)) (all_of_list (has_room methods) x.static_method_offsets) e in (
      among_contains x.class_offset (offsets_of placed) two.0,
      all_at (has_room methods) (NamesMethod methods)
          (method_there methods) x.static_method_offsets two.1,
    )

-- ---- what was read

parts : (t : PackageBytes) (c : PackageContents) → reading.contents_of t ≡ Ok c → (classes_in c.header.format t.classes ≡ Ok c.classes)
    × (statics_in t.statics ≡ Ok c.statics)
unfolding reading.contents_of
parts t c e =
    let header = bind_ok (header_in t.header) _ c e in
    let directory = bind_ok (directory_in header.0.format t.directory) _ c header.2 in
    let applets = bind_ok (applets_in t.applets) _ c directory.2 in
    let imports = bind_ok (imports_in t.imports) _ c applets.2 in
    let pool = bind_ok (pool_in t.pool) _ c imports.2 in
    let classes = bind_ok (classes_in header.0.format t.classes) _ c pool.2 in
    let methods = bind_ok (methods_in t.methods) _ c classes.2 in
    let statics = bind_ok (statics_in t.statics) _ c methods.2 in
    let exports = bind_ok (exports_in t.exports) _ c statics.2 in
    let made : PackageContents = record {
      header = header.0;
      directory = directory.0;
      applets = applets.0;
      imports = imports.0;
      pool = pool.0;
      classes = classes.0;
      methods = methods.0;
      statics = statics.0;
      exports = exports.0;
    } in
    let same : made ≡ c = ok_is made c exports.2 in
    subst (λ (x : PackageContents). (classes_in x.header.format t.classes ≡ Ok x.classes) × (statics_in t.statics ≡ Ok x.statics)) same (classes.1, statics.1)

are_classes : (t : PackageBytes) (c : PackageContents) → classes_in c.header.format t.classes ≡ Ok c.classes
    → (info : List ℕ) × AreClasses c.header.format c.classes info
are_classes t c e =
    let info = bind_ok (info_at 6 t.classes) (λ i. classes_of c.header.format i) c.classes e in
    (info.0, classes_take c.header.format info.0 c.classes info.2)

are_statics : (t : PackageBytes) (c : PackageContents) → statics_in t.statics ≡ Ok c.statics → (info : List ℕ) × AreStatics c.statics info
are_statics t c e =
    let info = bind_ok (info_at 8 t.statics) _ c.statics e in
    (info.0, whole_takes statics_at AreStatics statics_tells info.0 c.statics info.2)

pub is_package : (t : PackageBytes) → checked_package t ≡ Ok tt → IsPackage t
unfolding checked_package
is_package t e =
    let c = bind_ok (reading.contents_of t) _ tt e in
    let sizes = wanted_ok (sizes_agree t c.0) SizesDisagree _ tt c.2 in
    let fits = wanted_ok (offsets_fit c.0) BadOffset _ tt sizes.1 in
    let first = both (all_if_present (applet_fits c.0.methods) c.0.applets) (all_of_list (entry_fits c.0.classes c.0.methods) c.0.pool &&
    (tables_fit c.0.methods c.0.classes && all_if_present (export_fits c.0.classes c.0.methods) c.0.exports)) fits.0 in
    let second = both (all_of_list (entry_fits c.0.classes c.0.methods) c.0.pool) (tables_fit c.0.methods c.0.classes && all_if_present
    (export_fits c.0.classes c.0.methods) c.0.exports) first.1 in
    let third = both (tables_fit c.0.methods c.0.classes) (all_if_present (export_fits c.0.classes c.0.methods) c.0.exports) second.1 in
    let said = parts t c.0 c.1 in
    record {
      contents = c.0;
      read = c.1;
      entries = all_at (entry_fits c.0.classes c.0.methods) (EntryNamed c.0.classes c.0.methods) (entry_named c.0.classes c.0.methods) c.0.pool second.0;
      applets = all_there (applet_fits c.0.methods) (AppletNames c.0.methods) (λ a. method_there c.0.methods a.install_method_offset) c.0.applets first.0;
      exports = all_there (export_fits c.0.classes c.0.methods) (ExportNames c.0.classes c.0.methods)
          (export_named c.0.classes c.0.methods) c.0.exports third.1;
      tables = all_at (tables.record_fits c.0.methods) (RecordNamed c.0.methods) (record_named c.0.methods) (contents_of c.0.classes) third.0;
      classes = are_classes t c.0 said.0;
      statics = are_statics t c.0 said.1;
    }

checked_unit : (t : PackageBytes) (u : Unit {0}) → checked_package t ≡ Ok u → checked_package t ≡ Ok tt
checked_unit t u e = e

pub is_assembled : (load : LoadedComponents) (t : PackageBytes) → assembly_of load ≡ Ok t → IsPackage t
unfolding assembly_of
is_assembled load t e =
    let texts = bind_ok (required_components load) _ t e in
    let good = bind_ok (checked_package texts.0) _ t texts.2 in
    subst IsPackage (ok_is texts.0 t good.2) (is_package texts.0 (checked_unit texts.0 good.0 good.1))

pub found : (load : LoadedComponents) (r : Result PackageBytes CapFault) → ParsesAs (λ x. x) r (assembly_of load) → IfOk r (λ p. IsPackage p)
found load (Ok t) given = is_assembled load t given
found load (Err f) given = tt

-- a package can be read
pub never_unread : (t : PackageBytes) (fault : CapFault) → checked_package t ≡ Ok tt → reading.contents_of t ≡ Err fault → ⊥
unfolding checked_package
never_unread t fault e is =
    let c = bind_ok (reading.contents_of t) _ tt e in
    let wrong = sym c.1 ∙ is in
    absurd cc
