-- What a record keeps of a package is put together and linked as the package was.
use Rattle.std.proofs.Common.{◌≡◌, ℕ, Bool, true, false, List, length, refl, sym, ◌∙◌, ap, subst, Option, Some, None, Result, Ok, Err, if◌then◌else◌, nat_le}
use Rattle.std.specs.Prelude.{IfSome, is_some}
use Rattle.std.proofs.lemmas.Bool.{and_from, and_parts}
use Rattle.jc_cap.specs.declared.fault.CapFault.{CapFault}
use Rattle.jc_cap.specs.declared.fault.CapFault.TheVariants.{SizesDisagree}
use Rattle.jc_cap.specs.Reading.{◌>>=◌}
use Rattle.jc_cap.proofs.Many.{bind_ok, ok_is}
use Rattle.jc_cap.proofs.Telling.{wanted_ok}
use Rattle.jc_cap.specs.declared.texts.LoadedComponents.{LoadedComponents}
use Rattle.jc_cap.specs.declared.texts.PackageBytes.{PackageBytes}
use Rattle.jc_cap.specs.Assembling.{flagged_component, assembly_of, checked_package, flags_in, required_component, required_components}
use Rattle.jc_cap.specs.Contents.{PackageContents}
use Rattle.jc_cap.specs.ComponentReading.{applets_in, classes_in, directory_in, exports_in, header_in, imports_in, methods_in, pool_in, statics_in}
use Rattle.jc_cap.specs.PackageReading.{contents_of}
use Rattle.jc_cap.specs.Sizes.{optional_sizes_agree, required_sizes_agree, sizes_agree}
use Rattle.jc_cap.specs.Envelope.{info_at}
use Rattle.jc_linker.specs.Lookups.{package_with_aid}
use Rattle.jc_linker.specs.Values.{Packages}
use Rattle.jc_linker.specs.declared.fault.LinkFault.{LinkFault}
use Rattle.jc_linker.specs.Linking.{link_result}
use Rattle.jc_packages.specs.declared.load_refusal.LoadRefusal.{LoadRefusal}
use Rattle.jc_packages.specs.PendingPackages.{PendingPackageValue, if_linked, if_read, linked_components, linked_package}
use Rattle.jc_packages.specs.LinkerView.{linker_view}
use Rattle.law_soundness.specs.LoadedPackages.{AreBytes, IsReadable}
use Rattle.law_soundness.proofs.ReadingTexts.{AreRead, IsRead, IsReadIf, kept}

-- the components without those that a record doesn't keep
abbrev pub bare : PackageBytes → PackageBytes
bare t = record t { reference_location = None; descriptor = None }

-- ---- what there is

present_is : (tag : ℕ) (text : Option (List ℕ)) (x : List ℕ) → required_component tag text ≡ Ok x → text ≡ Some x
present_is tag None x e = absurd cc
present_is tag (Some y) x e = ap Some (ok_is y x e)

asked_is : (tag : ℕ) (flag : Bool) (text x : Option (List ℕ)) → flagged_component tag flag text ≡ Ok x → text ≡ x
asked_is tag flag (Some y) x e = ok_is (Some y) x e
asked_is tag true None x e = absurd cc
asked_is tag false None x e = ok_is None x e

-- what a load has, where all that is required of these is there
pub record Has (load : LoadedComponents) (t : PackageBytes) : Type 0 where
  pub header : load.header ≡ Some t.header
  pub directory : load.directory ≡ Some t.directory
  pub applets : load.applets ≡ t.applets
  pub imports : load.imports ≡ Some t.imports
  pub pool : load.pool ≡ Some t.pool
  pub classes : load.classes ≡ Some t.classes
  pub methods : load.methods ≡ Some t.methods
  pub statics : load.statics ≡ Some t.statics
  pub exports : load.exports ≡ t.exports
  pub again : required_components (kept t) ≡ Ok (bare t)

-- the last step of those that ask for components
abbrev last : PackageBytes → Option (List ℕ) → Option (List ℕ) → Result PackageBytes CapFault
last t a e = Ok (record (bare t) { applets = a; exports = e })

required_again : (t : PackageBytes) (flags : Bool × Bool) → flags_in t.header ≡ Ok flags → flagged_component 3 flags.1 t.applets ≡ Ok t.applets
    → flagged_component 10 flags.0 t.exports ≡ Ok t.exports → required_components (kept t) ≡ Ok (bare t)
unfolding required_components
required_again t flags said third tenth =
    ap (λ r. r >>= λ f. flagged_component 3 f.1 t.applets >>= λ a. flagged_component 10 f.0 t.exports >>= λ e. last t a e) said
    ∙ ap (λ r. r >>= λ a. flagged_component 10 flags.0 t.exports >>= λ e. last t a e) third
    ∙ ap (λ r. r >>= λ e. last t t.applets e) tenth

has_these : (load : LoadedComponents) (t : PackageBytes) (flags : Bool × Bool) → required_component 1 load.header ≡ Ok t.header
    → required_component 2 load.directory ≡ Ok t.directory → flags_in t.header ≡ Ok flags →
    flagged_component 3 flags.1 load.applets ≡ Ok t.applets → required_component 4 load.imports ≡ Ok t.imports → required_component 5 load.pool ≡ Ok t.pool
    → required_component 6 load.classes ≡ Ok t.classes → required_component 7 load.methods ≡ Ok t.methods →
    required_component 8 load.statics ≡ Ok t.statics → flagged_component 10 flags.0 load.exports ≡ Ok t.exports → Has load t
has_these load t flags h1 h2 said h3 h4 h5 h6 h7 h8 h10 = record {
  header = present_is 1 load.header t.header h1;
  directory = present_is 2 load.directory t.directory h2;
  applets = asked_is 3 flags.1 load.applets t.applets h3;
  imports = present_is 4 load.imports t.imports h4;
  pool = present_is 5 load.pool t.pool h5;
  classes = present_is 6 load.classes t.classes h6;
  methods = present_is 7 load.methods t.methods h7;
  statics = present_is 8 load.statics t.statics h8;
  exports = asked_is 10 flags.0 load.exports t.exports h10;
  again =
      let third : flagged_component 3 flags.1 t.applets ≡ Ok t.applets = ap (flagged_component 3 flags.1)
      (sym (asked_is 3 flags.1 load.applets t.applets h3)) ∙ h3 in
      let tenth : flagged_component 10 flags.0 t.exports ≡ Ok t.exports = ap (flagged_component 10 flags.0)
      (sym (asked_is 10 flags.0 load.exports t.exports h10)) ∙ h10 in
      required_again t flags said third tenth;
}

pub has_all : (load : LoadedComponents) (t : PackageBytes) → required_components load ≡ Ok t → Has load t
unfolding required_components
has_all load t e =
    let b1 = bind_ok (required_component 1 load.header) _ t e in
    let b2 = bind_ok (required_component 2 load.directory) _ t b1.2 in
    let flags = bind_ok (flags_in b1.0) _ t b2.2 in
    let b3 = bind_ok (flagged_component 3 flags.0.1 load.applets) _ t flags.2 in
    let b4 = bind_ok (required_component 4 load.imports) _ t b3.2 in
    let b5 = bind_ok (required_component 5 load.pool) _ t b4.2 in
    let b6 = bind_ok (required_component 6 load.classes) _ t b5.2 in
    let b7 = bind_ok (required_component 7 load.methods) _ t b6.2 in
    let b8 = bind_ok (required_component 8 load.statics) _ t b7.2 in
    let b10 = bind_ok (flagged_component 10 flags.0.0 load.exports) _ t b8.2 in
    let made : PackageBytes = record {
      header = b1.0;
      directory = b2.0;
      applets = b3.0;
      imports = b4.0;
      pool = b5.0;
      classes = b6.0;
      methods = b7.0;
      statics = b8.0;
      exports = b10.0;
      reference_location = load.reference_location;
      descriptor = load.descriptor;
    } in
    subst (Has load) (ok_is made t b10.2) (has_these load made flags.0 b1.1 b2.1 flags.1 b3.1 b4.1 b5.1 b6.1 b7.1 b8.1 b10.1)

-- ---- what is checked

said_again : (t : PackageBytes) → contents_of (bare t) ≡ contents_of t
unfolding contents_of
said_again t = refl

sizes_again : (t : PackageBytes) (c : PackageContents) → sizes_agree t c ≡ true → sizes_agree (bare t) c ≡ true
sizes_again t c e =
    let infos = and_parts (required_sizes_agree t c.directory.component_sizes) _ e in
    let came = and_parts (optional_sizes_agree t c.directory.component_sizes) _ infos.1 in
    let third = and_parts _ _ came.0 in
    let tenth = and_parts _ _ third.1 in
    and_from _ _ infos.0 (and_from _ _ (and_from _ _ third.0 (and_from _ _ tenth.0 refl)) came.1)

checked_again : (t : PackageBytes) → checked_package t ≡ Ok tt → checked_package (bare t) ≡ Ok tt
unfolding checked_package
checked_again t e =
    let read = bind_ok (contents_of t) _ tt e in
    let sizes = wanted_ok (sizes_agree t read.0) SizesDisagree _ tt read.2 in
    let same : contents_of (bare t) ≡ Ok read.0 = said_again t ∙ read.1 in
    rw (same, sizes_again t read.0 sizes.0) sizes.1

pub assembled_is : (load : LoadedComponents) (t : PackageBytes) → assembly_of load ≡ Ok t → (required_components load ≡ Ok t) × (checked_package t ≡ Ok tt)
unfolding assembly_of
assembled_is load t e =
    let all = bind_ok (required_components load) _ t e in
    let good = bind_ok (checked_package all.0) _ t all.2 in
    let same : all.0 ≡ t = ok_is all.0 t good.2 in
    subst (λ x. (required_components load ≡ Ok x) × (checked_package x ≡ Ok tt)) same (all.1, good.1)

pub assembled_again : (load : LoadedComponents) (t : PackageBytes) → assembly_of load ≡ Ok t → assembly_of (kept t) ≡ Ok (bare t)
unfolding assembly_of
assembled_again load t e =
    let parts = assembled_is load t e in
    ap (λ r. r >>= λ x. checked_package x >>= λ good. Ok x) (has_all load t parts.0).again
    ∙ ap (λ r. r >>= λ good. Ok (bare t)) (checked_again t parts.1)

-- ---- what is linked

pub read_ok : {A B : Type 0} (r : Result A CapFault) (f : A → Result B LoadRefusal) (y : B) → if_read r f ≡ Ok y → (x : A) × (r ≡ Ok x) × (f x ≡ Ok y)
read_ok (Ok x) f y e = (x, refl, e)
read_ok (Err fault) f y e = absurd cc

pub linked_ok : {A B : Type 0} (r : Result A LinkFault) (f : A → Result B LoadRefusal) (y : B) → if_linked r f ≡ Ok y → (x : A) × (r ≡ Ok x) × (f x ≡ Ok y)
linked_ok (Ok x) f y e = (x, refl, e)
linked_ok (Err fault) f y e = absurd cc

pub refused : {B : Type 0} (b : Bool) (d : LoadRefusal) (r : Result B LoadRefusal) (y : B) → (if b then Err d else r) ≡ Ok y → (b ≡ false) × (r ≡ Ok y)
refused true d r y e = absurd cc
refused false d r y e = (refl, e)

abbrev ok : PendingPackageValue → Result PendingPackageValue LoadRefusal
ok q = Ok q

same_ok : (x y : PendingPackageValue) → ok x ≡ ok y → x ≡ y
same_ok x y e = cc

of_again : (p : Packages) (t : PackageBytes) (c : PackageContents) (q : PendingPackageValue) → linked_package p t c ≡ Ok q
    → (q.texts ≡ t) × (linked_package p (bare t) c ≡ Ok (record { texts = bare t; linked = q.linked }))
unfolding linked_package
of_again p t c q e =
    let new = refused (is_some (package_with_aid p c.header.this_package.aid)) _ _ q e in
    let room = refused (nat_le 32 (length p.loaded)) _ _ q new.1 in
    let link = linked_ok (link_result p (linker_view t c)) _ q room.1 in
    let is : record { texts = t; linked = link.0 } ≡ q = same_ok (record { texts = t; linked = link.0 }) q link.2 in
    let said : link_result p (linker_view t c) ≡ Ok q.linked = link.1 ∙ ap (λ x. Ok x.linked) is in
    (ap (λ x. x.texts) (sym is), rw (new.0, room.0, said) refl)

-- what was prepared, and what is prepared of its record
pub record Prepares (p : Packages) (load : LoadedComponents) (q : PendingPackageValue) : Type 0 where
  pub assembled : assembly_of load ≡ Ok q.texts
  pub contents : PackageContents
  pub read : contents_of q.texts ≡ Ok contents
  pub again : linked_components p (kept q.texts) ≡ Ok (record { texts = bare q.texts; linked = q.linked })

pub prepares : (p : Packages) (load : LoadedComponents) (q : PendingPackageValue) → linked_components p load ≡ Ok q → Prepares p load q
unfolding linked_components
prepares p load q e =
    let whole = read_ok (assembly_of load) _ q e in
    let said = read_ok (contents_of whole.0) _ q whole.2 in
    let done = of_again p whole.0 said.0 q said.2 in
    record {
      assembled = whole.1 ∙ ap Ok (sym done.0);
      contents = said.0;
      read = ap contents_of done.0 ∙ said.1;
      again =
          let first : assembly_of (kept q.texts) ≡ Ok (bare q.texts) = assembled_again load q.texts (whole.1 ∙ ap Ok (sym done.0)) in
          let second : contents_of (bare q.texts) ≡ Ok said.0 = said_again q.texts ∙ ap contents_of done.0 ∙ said.1 in
          let third : linked_package p (bare q.texts) said.0 ≡ Ok (record { texts = bare q.texts; linked = q.linked }) =
          subst (λ x. linked_package p (bare x) said.0 ≡ Ok (record { texts = bare x; linked = q.linked })) (sym done.0) done.1 in
          ap (λ r. if_read r (λ x. if_read (contents_of x) (λ c. linked_package p x c))) first
          ∙ ap (λ r. if_read r (λ c. linked_package p (bare q.texts) c)) second ∙ third;
    }

-- ---- each component is read

one : (tag : ℕ) (text : List ℕ) (o : Option (List ℕ)) {A : Type 0} (f : List ℕ → Result A CapFault) (y : A) → o ≡ Some text → IfSome o AreBytes
    → (info_at tag text >>= f) ≡ Ok y → IsRead tag text
one tag text o f y is bytes e = let r = bind_ok (info_at tag text) f y e in record { info = r.0; read = r.1; bytes = subst (λ x. IfSome x AreBytes) is bytes }

pub are_read : (load : LoadedComponents) (t : PackageBytes) (c : PackageContents) → IsReadable load → Has load t → contents_of t ≡ Ok c → AreRead t
unfolding contents_of
are_read load t c bytes has e =
    let r1 = bind_ok (header_in t.header) _ c e in
    let r2 = bind_ok (directory_in r1.0.format t.directory) _ c r1.2 in
    let r3 = bind_ok (applets_in t.applets) _ c r2.2 in
    let r4 = bind_ok (imports_in t.imports) _ c r3.2 in
    let r5 = bind_ok (pool_in t.pool) _ c r4.2 in
    let r6 = bind_ok (classes_in r1.0.format t.classes) _ c r5.2 in
    let r7 = bind_ok (methods_in t.methods) _ c r6.2 in
    let r8 = bind_ok (statics_in t.statics) _ c r7.2 in
    let r10 = bind_ok (exports_in t.exports) _ c r8.2 in
    record {
      header = one 1 t.header load.header _ r1.0 has.header bytes.header r1.1;
      directory = one 2 t.directory load.directory _ r2.0 has.directory bytes.directory r2.1;
      applets = applets t.applets (subst (λ x. IfSome x AreBytes) has.applets bytes.applets) r3.0 r3.1;
      imports = one 4 t.imports load.imports _ r4.0 has.imports bytes.imports r4.1;
      pool = one 5 t.pool load.pool _ r5.0 has.pool bytes.pool r5.1;
      classes = one 6 t.classes load.classes _ r6.0 has.classes bytes.classes r6.1;
      methods = one 7 t.methods load.methods _ r7.0 has.methods bytes.methods r7.1;
      statics = one 8 t.statics load.statics _ r8.0 has.statics bytes.statics r8.1;
      exports = exports t.exports (subst (λ x. IfSome x AreBytes) has.exports bytes.exports) r10.0 r10.1;
    }
  where
    applets : (o : Option (List ℕ)) → IfSome o AreBytes → (y : _) → applets_in o ≡ Ok y → IsReadIf 3 o
    applets None bytes y e = tt
    applets (Some text) bytes y e = one 3 text (Some text) _ y refl bytes e

    exports : (o : Option (List ℕ)) → IfSome o AreBytes → (y : _) → exports_in o ≡ Ok y → IsReadIf 10 o
    exports None bytes y e = tt
    exports (Some text) bytes y e = one 10 text (Some text) _ y refl bytes e
