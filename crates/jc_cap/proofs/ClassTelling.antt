-- One record of the Class component: what is read stands in the bytes, and what stands there is read.
use Rattle.std.proofs.Common.{◌≡◌, ℕ, ◌+◌, ◌*◌, ◌/◌, ◌%◌, ◌<◌, Bool, true, false, cond, ltb, eqb, List, [], ◌∷◌, ◌++◌, length, Result, Ok, Err, refl, sym, ap}
use Rattle.std.proofs.Common.{subst, ◌∙◌, append_assoc, arith, inl, inr}
use Rattle.std.proofs.lemmas.Bool.{ltb-false, le-ltb, eqb-true, eq-eqb}
use Rattle.jc_cap.specs.declared.fault.CapFault.{CapFault}
use Rattle.jc_cap.specs.declared.fault.CapFault.TheVariants.{BadOffset, Remote}
use Rattle.jc_cap.specs.declared.class_refs.ClassRef.{ClassRef}
use Rattle.jc_cap.specs.Reading.{◌>>=◌, Field, u1_at, u2_at, run_at, many_at}
use Rattle.jc_cap.specs.ClassRefs.{class_ref_at}
use Rattle.jc_cap.specs.Grammar.{AreEncodedInTurn, IsU2, IsClassRef, IsPrefixEncoding, ReadsEncodings}
use Rattle.jc_cap.proofs.Many.{bind_ok, ok_is}
use Rattle.jc_cap.proofs.Telling.{guard_ok, chosen, u1_takes, u2_tells, run_takes, run_again, class_ref_tells, many_takes, many_again}
use Rattle.jc_cap.specs.ClassLists.{Implemented, implemented_at}
use Rattle.jc_cap.specs.declared.class_records.RecordFlags.{RecordFlags}
use Rattle.jc_cap.specs.declared.class_records.ReferenceFields.{ReferenceFields}
use Rattle.jc_cap.specs.declared.class_reading.TableSizes.{TableSizes}
use Rattle.jc_cap.specs.declared.class_records.MethodTables.{MethodTables}
use Rattle.jc_cap.specs.declared.class_records.InterfaceInfo.{InterfaceInfo}
use Rattle.jc_cap.specs.declared.class_records.ClassInfo.{ClassInfo}
use Rattle.jc_cap.specs.declared.class_records.ClassRecord.{ClassRecord}
use Rattle.jc_cap.specs.declared.class_records.ClassRecord.TheVariants as records
use Rattle.jc_cap.specs.ClassReading.{super_at, references_at, table_sizes_at, tables_at, class_at, interface_at, flags_of, record_at, any_class}
use Rattle.jc_cap.specs.Classes.{IsImplemented, FitsIn, first_byte, AreTables, IsInterface, IsClass, IsRecord}
use Rattle.jc_cap.proofs.AdjacentTexts.{joined, headed}
use Rattle.jc_cap.proofs.Supers.{super_is}
use Rattle.jc_cap.proofs.Among.{AllKnown, Knows, knows_any}

-- ---- implemented interfaces

implemented_takes : (bytes : List ℕ) (i : Implemented) (rest : List ℕ) → implemented_at bytes ≡ Ok (i, rest) → IsPrefixEncoding IsImplemented bytes i rest
unfolding implemented_at
implemented_takes bytes i rest e =
    let interface = bind_ok (class_ref_at bytes) _ (i, rest) e in
    let count = bind_ok (u1_at interface.0.1) _ (i, rest) interface.2 in
    let tokens = bind_ok (run_at count.0.0 count.0.1) _ (i, rest) count.2 in
    let made : Implemented × List ℕ = (record { interface = interface.0.0; tokens = tokens.0.0 }, tokens.0.1) in
    let c = class_ref_tells.takes bytes interface.0.0 interface.0.1 interface.1 in
    let run = run_takes count.0.0 count.0.1 tokens.0.0 tokens.0.1 tokens.1 in
    let back : interface.0.1 ≡ (length tokens.0.0 ∷ tokens.0.0) ++ tokens.0.1 =
    headed interface.0.1 (length tokens.0.0) count.0.1 tokens.0.0 tokens.0.1 (u1_takes interface.0.1 count.0.0 count.0.1 count.1
    ∙ ap (λ (k : ℕ). k ∷ count.0.1) (sym run.1)) run.0 in
    subst (λ (y : Implemented × List ℕ). IsPrefixEncoding IsImplemented bytes y.0 y.1) (ok_is made (i, rest) tokens.2)
    (record {
      text = c.text ++ length tokens.0.0 ∷ tokens.0.0;
      is = (c.text, c.is, refl);
      parts = joined bytes c.text interface.0.1 (length tokens.0.0 ∷ tokens.0.0) tokens.0.1 c.parts back;
    })

implemented_again : (i : Implemented) (text rest : List ℕ) → IsImplemented i text → implemented_at (text ++ rest) ≡ Ok (i, rest)
unfolding implemented_at
implemented_again i text rest is =
    rw (
      is.2,
      append_assoc is.0 (length i.tokens ∷ i.tokens) rest,
      class_ref_tells.again i.interface is.0 (length i.tokens ∷ (i.tokens ++ rest)) is.1,
      run_again i.tokens rest,
    ) refl

pub implemented_tells : ReadsEncodings implemented_at IsImplemented
implemented_tells = record { takes = implemented_takes; again = implemented_again }

-- ---- the fields that hold references

same_either : {A : Type 0} (b : Bool) (x : A) → cond b x x ≡ x
same_either true x = refl
same_either false x = refl

references_take : (size : ℕ) (bytes : List ℕ) (r : ReferenceFields) (rest : List ℕ) → references_at size bytes ≡ Ok (r, rest)
    → (bytes ≡ r.first_token ∷ r.count ∷ rest) × FitsIn size r
unfolding references_at
references_take size bytes r rest e =
    let first = bind_ok (u1_at bytes) _ (r, rest) e in
    let count = bind_ok (u1_at first.0.1) _ (r, rest) first.2 in
    let parts : bytes ≡ first.0.0 ∷ count.0.0 ∷ count.0.1 = u1_takes bytes first.0.0 first.0.1 first.1
    ∙ ap (λ (t : List ℕ). first.0.0 ∷ t) (u1_takes first.0.1 count.0.0 count.0.1 count.1) in
    let made : ReferenceFields × List ℕ = (record { first_token = first.0.0; count = count.0.0 }, count.0.1) in
    let Goal : ReferenceFields × List ℕ → Type 0 = λ y. (bytes ≡ y.0.first_token ∷ y.0.count ∷ y.1) × FitsIn size y.0 in
    elim (chosen (eqb count.0.0 0) _ _ _ count.2) [
      | inl none ↦ subst Goal (ok_is made (r, rest) none.1) (parts, inl (eqb-true _ _ none.0))
      | inr some ↦
          let fits = guard_ok (ltb size (first.0.0 + count.0.0)) BadOffset _ _ some.1 in
          subst Goal (ok_is made (r, rest) fits.1) (parts, inr (ltb-false _ _ fits.0))
    ]

references_again : (size : ℕ) (r : ReferenceFields) (rest : List ℕ) → FitsIn size r → references_at size (r.first_token ∷ r.count ∷ rest) ≡ Ok (r, rest)
unfolding references_at
references_again size r rest (inl none) = rw (eq-eqb r.count 0 none) refl
references_again size r rest (inr fits) =
    let made : Field ReferenceFields = Ok (r, rest) in
    rw (le-ltb size (r.first_token + r.count) fits) (same_either (eqb r.count 0) made)

-- ---- superclasses and superinterfaces

abbrev IsKnown : (ClassRef → Bool) → ClassRef → List ℕ → Type 0
IsKnown known c text = IsClassRef c text × (known c ≡ true)

super_takes : (known : ClassRef → Bool) (bytes : List ℕ) (c : ClassRef) (rest : List ℕ) → super_at known bytes ≡ Ok (c, rest)
    → IsPrefixEncoding (IsKnown known) bytes c rest
super_takes known bytes c rest e =
    let s = super_is known bytes c rest e in
    let t = class_ref_tells.takes bytes c rest s.0 in
    record { text = t.text; is = (t.is, s.1); parts = t.parts }

super_again : (known : ClassRef → Bool) (c : ClassRef) (text rest : List ℕ) → IsKnown known c text → super_at known (text ++ rest) ≡ Ok (c, rest)
unfolding super_at
super_again known c text rest is = rw (class_ref_tells.again c text rest is.0, is.1) refl

super_tells : (known : ClassRef → Bool) → ReadsEncodings (super_at known) (IsKnown known)
super_tells known = record { takes = super_takes known; again = super_again known }

known_apart : (known : ClassRef → Bool) (cs : List ClassRef) (text : List ℕ) → AreEncodedInTurn (IsKnown known) cs text
    → AreEncodedInTurn IsClassRef cs text × AllKnown known cs
known_apart known [] text is = (is, tt)
known_apart known (c ∷ cs) text is =
    let others = known_apart known cs is.1 is.4 in
    ((is.0, is.1, is.2.0, is.3, others.0), (is.2.1, others.1))

known_together : (known : ClassRef → Bool) (cs : List ClassRef) (text : List ℕ) → AreEncodedInTurn IsClassRef cs text → AllKnown known cs
    → AreEncodedInTurn (IsKnown known) cs text
known_together known [] text is k = is
known_together known (c ∷ cs) text is k = (is.0, is.1, (is.2, k.0), is.3, known_together known cs is.1 is.4 k.1)

-- ---- interfaces

record InterfaceText (known : ClassRef → Bool) (shareable : Bool) (count : ℕ) (i : InterfaceInfo) (text : List ℕ) : Type 0 where
  is : IsInterface i text
  all_known : AllKnown known i.superinterfaces
  shareable_is : i.shareable ≡ shareable
  count_is : length i.superinterfaces ≡ count

interface_takes : (known : ClassRef → Bool) (shareable : Bool) (count : ℕ) (bytes : List ℕ) (i : InterfaceInfo) (rest : List ℕ)
    → interface_at known shareable count bytes ≡ Ok (i, rest) → IsPrefixEncoding (InterfaceText known shareable count) bytes i rest
unfolding interface_at
interface_takes known shareable count bytes i rest e =
    let supers = bind_ok (many_at (super_at known) count bytes) _ (i, rest) e in
    let made : InterfaceInfo × List ℕ = (record { shareable = shareable; superinterfaces = supers.0.0 }, supers.0.1) in
    let t = many_takes (super_at known) (IsKnown known) (super_tells known) count bytes supers.0.0 supers.0.1 supers.1 in
    let a = known_apart known supers.0.0 t.0.text t.0.is in
    subst (λ (y : InterfaceInfo × List ℕ). IsPrefixEncoding (InterfaceText known shareable count) bytes y.0 y.1) (ok_is made (i, rest) supers.2)
    (record { text = t.0.text; is = record { is = a.0; all_known = a.1; shareable_is = refl; count_is = t.1 }; parts = t.0.parts })

interface_again : (known : ClassRef → Bool) (i : InterfaceInfo) (text rest : List ℕ) → IsInterface i text → AllKnown known i.superinterfaces
    → interface_at known i.shareable (length i.superinterfaces) (text ++ rest) ≡ Ok (i, rest)
unfolding interface_at
interface_again known i text rest is k = rw (many_again (super_at known) (IsKnown known) (super_tells known) i.superinterfaces text rest
    (known_together known i.superinterfaces text is k)) refl

-- ---- method tables

four : (b0 b1 b2 b3 rest : List ℕ) (w x y z : ℕ) → b0 ≡ w ∷ b1 → b1 ≡ x ∷ b2 → b2 ≡ y ∷ b3 → b3 ≡ z ∷ rest → b0 ≡ w ∷ x ∷ y ∷ z ∷ rest
four b0 b1 b2 b3 rest w x y z e0 e1 e2 e3 = cc

record SizesText (s : TableSizes) (bytes rest : List ℕ) : Type 0 where
  package_base : ℕ
  masked : package_base % 128 ≡ s.package_base
  parts : bytes ≡ s.public_base ∷ s.public_count ∷ package_base ∷ s.package_count ∷ rest

sizes_take : (bytes : List ℕ) (s : TableSizes) (rest : List ℕ) → table_sizes_at bytes ≡ Ok (s, rest) → SizesText s bytes rest
unfolding table_sizes_at
sizes_take bytes s rest e =
    let public_base = bind_ok (u1_at bytes) _ (s, rest) e in
    let public_count = bind_ok (u1_at public_base.0.1) _ (s, rest) public_base.2 in
    let package_base = bind_ok (u1_at public_count.0.1) _ (s, rest) public_count.2 in
    let package_count = bind_ok (u1_at package_base.0.1) _ (s, rest) package_base.2 in
    let made : TableSizes × List ℕ = (
      record {
        public_base = public_base.0.0;
        public_count = public_count.0.0;
        package_base = package_base.0.0 % 128;
        package_count = package_count.0.0;
      },
      package_count.0.1,
    ) in
    subst (λ (y : TableSizes × List ℕ). SizesText y.0 bytes y.1) (ok_is made (s, rest) package_count.2)
    (record {
      package_base = package_base.0.0;
      masked = refl;
      parts = four bytes public_base.0.1 public_count.0.1 package_base.0.1 package_count.0.1 public_base.0.0 public_count.0.0 package_base.0.0
          package_count.0.0 (u1_takes bytes public_base.0.0 public_base.0.1 public_base.1)
          (u1_takes public_base.0.1 public_count.0.0 public_count.0.1 public_count.1)
          (u1_takes public_count.0.1 package_base.0.0 package_base.0.1 package_base.1)
          (u1_takes package_base.0.1 package_count.0.0 package_count.0.1 package_count.1);
    })

counts_so : (bytes b r : List ℕ) (p q w x y z : ℕ) → bytes ≡ p ∷ w ∷ y ∷ x ∷ b → w ≡ q → x ≡ z → b ≡ r → bytes ≡ p ∷ q ∷ y ∷ z ∷ r
counts_so bytes b r p q w x y z e f g h = cc

tables_take : (bytes : List ℕ) (t : MethodTables) (rest : List ℕ) → tables_at bytes ≡ Ok (t, rest) → IsPrefixEncoding AreTables bytes t rest
unfolding tables_at
tables_take bytes t rest e =
    let sizes = bind_ok (table_sizes_at bytes) _ (t, rest) e in
    let publics = bind_ok (many_at u2_at sizes.0.0.public_count sizes.0.1) _ (t, rest) sizes.2 in
    let packages = bind_ok (many_at u2_at sizes.0.0.package_count publics.0.1) _ (t, rest) publics.2 in
    let made : MethodTables × List ℕ = (
      record {
        public_base = sizes.0.0.public_base;
        public_methods = publics.0.0;
        package_base = sizes.0.0.package_base;
        package_methods = packages.0.0;
      },
      packages.0.1,
    ) in
    let s = sizes_take bytes sizes.0.0 sizes.0.1 sizes.1 in
    let p = many_takes u2_at IsU2 u2_tells sizes.0.0.public_count sizes.0.1 publics.0.0 publics.0.1 publics.1 in
    let q = many_takes u2_at IsU2 u2_tells sizes.0.0.package_count publics.0.1 packages.0.0 packages.0.1 packages.1 in
    let both : sizes.0.1 ≡ (p.0.text ++ q.0.text) ++ packages.0.1 = joined sizes.0.1 p.0.text publics.0.1 q.0.text packages.0.1 p.0.parts q.0.parts in
    subst (λ (y : MethodTables × List ℕ). IsPrefixEncoding AreTables bytes y.0 y.1) (ok_is made (t, rest) packages.2)
    (record {
      text = sizes.0.0.public_base ∷ length publics.0.0 ∷ s.package_base ∷ length packages.0.0 ∷ (p.0.text ++ q.0.text);
      is = (s.package_base, p.0.text, q.0.text, s.masked, p.0.is, q.0.is, refl);
      parts = counts_so bytes sizes.0.1 ((p.0.text ++ q.0.text) ++ packages.0.1) sizes.0.0.public_base
          (length publics.0.0) sizes.0.0.public_count sizes.0.0.package_count s.package_base (length packages.0.0) s.parts (sym p.1) (sym q.1) both;
    })

sizes_again : (a b c d : ℕ) (rest : List ℕ) → table_sizes_at (a ∷ b ∷ c ∷ d ∷ rest)
    ≡ Ok (record { public_base = a; public_count = b; package_base = c % 128; package_count = d }, rest)
unfolding table_sizes_at
sizes_again a b c d rest = refl

tables_again : (t : MethodTables) (text rest : List ℕ) → AreTables t text → tables_at (text ++ rest) ≡ Ok (t, rest)
unfolding tables_at
tables_again t text rest is =
    rw (
      is.6,
      append_assoc is.1 is.2 rest,
      sizes_again t.public_base (length t.public_methods) is.0 (length t.package_methods) (is.1 ++ (is.2 ++ rest)),
      many_again u2_at IsU2 u2_tells t.public_methods is.1 (is.2 ++ rest) is.4,
      many_again u2_at IsU2 u2_tells t.package_methods is.2 rest is.5,
      is.3,
    ) refl

-- ---- classes

record ClassText (known : ClassRef → Bool) (shareable : Bool) (count : ℕ) (c : ClassInfo) (text : List ℕ) : Type 0 where
  is : IsClass c text
  is_known : known c.superclass ≡ true
  shareable_is : c.shareable ≡ shareable
  count_is : length c.interfaces ≡ count

fixed_parts : (bytes next tables lists rest : List ℕ) (a b c : ℕ) → bytes ≡ a ∷ next → next ≡ b ∷ c ∷ tables → tables ≡ lists ++ rest
    → bytes ≡ (a ∷ b ∷ c ∷ lists) ++ rest
fixed_parts bytes next tables lists rest a b c e f g = e ∙ ap (λ (t : List ℕ). a ∷ t) (f ∙ ap (λ (t : List ℕ). b ∷ c ∷ t) g)

class_takes : (known : ClassRef → Bool) (shareable : Bool) (interfaces : ℕ) (bytes : List ℕ) (c : ClassInfo) (rest : List ℕ)
    → class_at known shareable interfaces bytes ≡ Ok (c, rest) → IsPrefixEncoding (ClassText known shareable interfaces) bytes c rest
unfolding class_at
class_takes known shareable interfaces bytes c rest e =
    let super = bind_ok (super_at known bytes) _ (c, rest) e in
    let size = bind_ok (u1_at super.0.1) _ (c, rest) super.2 in
    let references = bind_ok (references_at size.0.0 size.0.1) _ (c, rest) size.2 in
    let tables = bind_ok (tables_at references.0.1) _ (c, rest) references.2 in
    let implemented = bind_ok (many_at implemented_at interfaces tables.0.1) _ (c, rest) tables.2 in
    let made : ClassInfo × List ℕ = (
      record {
        shareable = shareable;
        superclass = super.0.0;
        declared_instance_size = size.0.0;
        references = references.0.0;
        tables = tables.0.0;
        interfaces = implemented.0.0;
      },
      implemented.0.1,
    ) in
    let s = super_takes known bytes super.0.0 super.0.1 super.1 in
    let r = references_take size.0.0 size.0.1 references.0.0 references.0.1 references.1 in
    let t = tables_take references.0.1 tables.0.0 tables.0.1 tables.1 in
    let m = many_takes implemented_at IsImplemented implemented_tells interfaces tables.0.1 implemented.0.0 implemented.0.1 implemented.1 in
    let lists : references.0.1 ≡ (t.text ++ m.0.text) ++ implemented.0.1 = joined references.0.1 t.text tables.0.1 m.0.text implemented.0.1 t.parts m.0.parts in
    let behind : super.0.1 ≡ (size.0.0 ∷ references.0.0.first_token ∷ references.0.0.count ∷ (t.text ++ m.0.text)) ++ implemented.0.1 =
    fixed_parts super.0.1 size.0.1 references.0.1 (t.text ++ m.0.text) implemented.0.1 size.0.0 references.0.0.first_token references.0.0.count
    (u1_takes super.0.1 size.0.0 size.0.1 size.1) r.0 lists in
    let is : IsClass made.0 (s.text ++ size.0.0 ∷ references.0.0.first_token ∷ references.0.0.count ∷ (t.text ++ m.0.text)) =
    (s.text, t.text, m.0.text, s.is.0, r.1, t.is, m.0.is, refl) in
    subst (λ (y : ClassInfo × List ℕ). IsPrefixEncoding (ClassText known shareable interfaces) bytes y.0 y.1) (ok_is made (c, rest) implemented.2)
    (record {
      text = s.text ++ size.0.0 ∷ references.0.0.first_token ∷ references.0.0.count ∷ (t.text ++ m.0.text);
      is = record { is = is; is_known = s.is.1; shareable_is = refl; count_is = m.1 };
      parts = joined bytes s.text super.0.1 (size.0.0 ∷ references.0.0.first_token ∷ references.0.0.count ∷ (t.text ++ m.0.text)) implemented.0.1 s.parts
          behind;
    })

class_split : (text super tables interfaces rest : List ℕ) (a b c : ℕ) → text ≡ super ++ a ∷ b ∷ c ∷ (tables ++ interfaces)
    → text ++ rest ≡ super ++ a ∷ b ∷ c ∷ (tables ++ (interfaces ++ rest))
class_split text super tables interfaces rest a b c is = rw (
  is,
  append_assoc super (a ∷ b ∷ c ∷ (tables ++ interfaces)) rest,
  append_assoc tables interfaces rest,
) refl

class_again : (known : ClassRef → Bool) (c : ClassInfo) (text rest : List ℕ) → IsClass c text → known c.superclass ≡ true
    → class_at known c.shareable (length c.interfaces) (text ++ rest) ≡ Ok (c, rest)
unfolding class_at
class_again known c text rest is k =
    let fixed : List ℕ = c.declared_instance_size ∷ c.references.first_token ∷ c.references.count ∷ (is.1 ++ (is.2 ++ rest)) in
    rw (
      class_split text is.0 is.1 is.2 rest c.declared_instance_size c.references.first_token c.references.count is.7,
      super_again known c.superclass is.0 fixed (is.3, k),
      references_again c.declared_instance_size c.references (is.1 ++ (is.2 ++ rest)) is.4,
      tables_again c.tables is.1 (is.2 ++ rest) is.5,
      many_again implemented_at IsImplemented implemented_tells c.interfaces is.2 rest is.6,
    ) refl

-- ---- flags

abbrev high_bits : Bool → Bool → ℕ
high_bits interface shareable = (cond interface 8 0) + (cond shareable 4 0)

never : (b : Bool) (f : RecordFlags) → ◌≡◌ {A = Result RecordFlags CapFault} (cond b (Err Remote) (Err BadOffset)) (Ok f) → ⊥
never true f e = cc
never false f e = cc

flags_take : (n : ℕ) (f : RecordFlags) → flags_of n ≡ Ok f → n ≡ high_bits f.interface f.shareable
flags_take n f e =
    let Goal : RecordFlags → Type 0 = λ g. n ≡ high_bits g.interface g.shareable in
    elim (chosen (eqb n 0) _ _ _ e) [
      | inl is0 ↦ subst Goal (ok_is (record { interface = false; shareable = false }) f is0.1) (eqb-true _ _ is0.0)
      | inr not0 ↦ elim (chosen (eqb n 4) _ _ _ not0.1) [
        | inl is4 ↦ subst Goal (ok_is (record { interface = false; shareable = true }) f is4.1) (eqb-true _ _ is4.0)
        | inr not4 ↦ elim (chosen (eqb n 8) _ _ _ not4.1) [
          | inl is8 ↦ subst Goal (ok_is (record { interface = true; shareable = false }) f is8.1) (eqb-true _ _ is8.0)
          | inr not8 ↦ elim (chosen (eqb n 12) _ _ _ not8.1) [
            | inl is12 ↦ subst Goal (ok_is (record { interface = true; shareable = true }) f is12.1) (eqb-true _ _ is12.0)
            | inr not12 ↦ absurd (never (eqb (n / 2 % 2) 1) f not12.1)
          ]
        ]
      ]
    ]

flags_again : (interface shareable : Bool) → flags_of (high_bits interface shareable) ≡ Ok (record { interface = interface; shareable = shareable })
flags_again true true = refl
flags_again true false = refl
flags_again false true = refl
flags_again false false = refl

nibbles : (high count : ℕ) → count < 16 → ((high * 16 + count) / 16 ≡ high) × ((high * 16 + count) % 16 ≡ count)
nibbles high count lt = (omega (arith, lt), omega (arith, lt))

together : (n : ℕ) → n ≡ n / 16 * 16 + n % 16
together n = omega arith

low_nibble : (n : ℕ) → n % 16 < 16
low_nibble n = omega arith

-- ---- records

record RecordText (known : ClassRef → Bool) (r : ClassRecord) (text : List ℕ) : Type 0 where
  is : IsRecord r text
  is_known : Knows known r

abbrev flagged : (ClassRef → Bool) → ℕ → List ℕ → RecordFlags → Field ClassRecord
flagged known first bytes flags =
    cond flags.interface (interface_at known flags.shareable (first % 16) bytes >>= λ i. Ok (records.Interface i.0, i.1))
    (class_at known flags.shareable (first % 16) bytes >>= λ c. Ok (records.Class c.0, c.1))

flagged_takes : (known : ClassRef → Bool) (interface shareable : Bool) (first : ℕ) (bytes : List ℕ) (r : ClassRecord) (rest : List ℕ)
    → first ≡ high_bits interface shareable * 16 + first % 16
    → flagged known first bytes (record { interface = interface; shareable = shareable }) ≡ Ok (r, rest)
    → IsPrefixEncoding (RecordText known) (first ∷ bytes) r rest
flagged_takes known true shareable first bytes r rest byte e =
    let i = bind_ok (interface_at known shareable (first % 16) bytes) _ (r, rest) e in
    let t = interface_takes known shareable (first % 16) bytes i.0.0 i.0.1 i.1 in
    let made : ClassRecord × List ℕ = (records.Interface i.0.0, i.0.1) in
    let few : length i.0.0.superinterfaces < 16 = omega (arith, t.is.count_is, low_nibble first) in
    let byte-is : first ≡ first_byte true i.0.0.shareable (length i.0.0.superinterfaces) = byte ∙ rw (t.is.shareable_is, t.is.count_is) refl in
    subst (λ (y : ClassRecord × List ℕ). IsPrefixEncoding (RecordText known) (first ∷ bytes) y.0 y.1) (ok_is made (r, rest) i.2)
    (record {
      text = first ∷ t.text;
      is = record { is = (t.text, few, t.is.is, ap (λ (b : ℕ). b ∷ t.text) byte-is); is_known = t.is.all_known };
      parts = ap (λ (s : List ℕ). first ∷ s) t.parts;
    })
flagged_takes known false shareable first bytes r rest byte e =
    let c = bind_ok (class_at known shareable (first % 16) bytes) _ (r, rest) e in
    let t = class_takes known shareable (first % 16) bytes c.0.0 c.0.1 c.1 in
    let made : ClassRecord × List ℕ = (records.Class c.0.0, c.0.1) in
    let few : length c.0.0.interfaces < 16 = omega (arith, t.is.count_is, low_nibble first) in
    let byte-is : first ≡ first_byte false c.0.0.shareable (length c.0.0.interfaces) = byte ∙ rw (t.is.shareable_is, t.is.count_is) refl in
    subst (λ (y : ClassRecord × List ℕ). IsPrefixEncoding (RecordText known) (first ∷ bytes) y.0 y.1) (ok_is made (r, rest) c.2)
    (record {
      text = first ∷ t.text;
      is = record { is = (t.text, few, t.is.is, ap (λ (b : ℕ). b ∷ t.text) byte-is); is_known = t.is.is_known };
      parts = ap (λ (s : List ℕ). first ∷ s) t.parts;
    })

first_is : (first n : ℕ) → first / 16 ≡ n → first ≡ n * 16 + first % 16
first_is first n e = together first ∙ ap (λ (k : ℕ). k * 16 + first % 16) e

-- a record that is read, and what it says of others
pub record Found (known : ClassRef → Bool) (bytes : List ℕ) (r : ClassRecord) (rest : List ℕ) : Type 0 where
  pub taken : IsPrefixEncoding IsRecord bytes r rest
  pub is_known : Knows known r

pub record_takes : (known : ClassRef → Bool) (bytes : List ℕ) (r : ClassRecord) (rest : List ℕ) → record_at known bytes ≡ Ok (r, rest)
    → Found known bytes r rest
unfolding record_at
record_takes known bytes r rest e =
    let first = bind_ok (u1_at bytes) _ (r, rest) e in
    let flags = bind_ok (flags_of (first.0.0 / 16)) _ (r, rest) first.2 in
    let t = flagged_takes known flags.0.interface flags.0.shareable first.0.0 first.0.1 r rest
    (first_is first.0.0 (high_bits flags.0.interface flags.0.shareable) (flags_take (first.0.0 / 16) flags.0 flags.1)) flags.2 in
    record { taken = record { text = t.text; is = t.is.is; parts = u1_takes bytes first.0.0 first.0.1 first.1 ∙ t.parts }; is_known = t.is.is_known }

pub record_again : (known : ClassRef → Bool) (r : ClassRecord) (text rest : List ℕ) → IsRecord r text → Knows known r
    → record_at known (text ++ rest) ≡ Ok (r, rest)
unfolding record_at
record_again known (records.Interface i) text rest is k =
    let n = nibbles (high_bits true i.shareable) (length i.superinterfaces) is.1 in
    rw (is.3, n.0, flags_again true i.shareable, n.1, interface_again known i is.0 rest is.2 k) refl
record_again known (records.Class c) text rest is k =
    let n = nibbles (high_bits false c.shareable) (length c.interfaces) is.1 in
    rw (is.3, n.0, flags_again false c.shareable, n.1, class_again known c is.0 rest is.2 k) refl

-- a record has a byte at least
pub record_long : (r : ClassRecord) (text : List ℕ) → IsRecord r text → 0 < length text
record_long (records.Interface i) text is = omega (arith, ap length is.3)
record_long (records.Class c) text is = omega (arith, ap length is.3)

-- what was read as known is read again without that
pub record_reread : (known : ClassRef → Bool) (bytes : List ℕ) (r : ClassRecord) (rest : List ℕ) → record_at known bytes ≡ Ok (r, rest)
    → record_at any_class bytes ≡ Ok (r, rest)
record_reread known bytes r rest e =
    let t = record_takes known bytes r rest e in
    ap (record_at any_class) t.taken.parts ∙ record_again any_class r t.taken.text rest t.taken.is (knows_any r)
