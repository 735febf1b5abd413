-- Classes that instances of the platform's classes are of are the platform's.
use Rattle.std.proofs.Common.{◌≡◌, ℕ, zero, suc, ◌+◌, ◌/◌, ◌<◌, ◌≤◌, inl, inr, ◌==◌, ◌&&◌, ◌||◌, Bool, true, false, List, [], ◌∷◌, Option, Some, None, length, refl}
use Rattle.std.proofs.Common.{subst, ap, arith, if◌then◌else◌}
use Rattle.std.specs.Prelude.{is_some, nat_lt, slice_get}
use Rattle.std.specs.Option.{option_map, option_and_then}
use Rattle.std.proofs.lemmas.Bool.{and_parts, eqb-true, false≢true, ltb-true, or_cases}
use Rattle.jc_platform.specs.declared.names.PlatformClass.{PlatformClass}
use Rattle.jc_platform.specs.NamePlaces.{class_word}
use Rattle.jc_platform.specs.Hierarchy.{interfaces_of, superclass_of}
use Rattle.jc_platform.specs.Platform.{class_by_word}
use Rattle.jc_cap.specs.declared.class_refs.ClassRef.{ClassRef}
use Rattle.jc_cap.specs.declared.pool.Entry.{Entry}
use Rattle.jc_cap.specs.declared.pool.Entry.TheVariants as entries
use Rattle.jc_cap.specs.declared.pool.StaticRef.TheVariants as statics
use Rattle.jc_cap.specs.declared.pool.VirtualToken.{VirtualToken}
use Rattle.jc_linker.specs.declared.target.Method.{Method}
use Rattle.jc_linker.specs.declared.target.Method.TheVariants.{Code}
use Rattle.jc_linker.specs.declared.target.Target.{Target}
use Rattle.jc_linker.specs.declared.target.Target.TheVariants as targets
use Rattle.jc_linker.specs.Classes.{any_is, class_in, declares_reference, extends, extends_within, implements, interfaces_by, interfaces_in}
use Rattle.jc_linker.specs.Classes.{platform_interfaces, is_below, lineage_from, most_classes, package_in, stands_before, superclass_by, superclass_in}
use Rattle.jc_linker.specs.Lookups.{target_at}
use Rattle.jc_linker.specs.Methods.{method_at}
use Rattle.jc_linker.specs.Resolve.{class_named, class_with_token, export_of, field_of, field_target, foreign_field, foreign_method, import_by_token}
use Rattle.jc_linker.specs.Resolve.{names_interface, resolution, static_method_by, super_target, virtual_target}
use Rattle.jc_linker.specs.Values.{ClassValue, Packages}
use Rattle.jc_linker.specs.Values.{LinkerComponents}
use Rattle.law_code.specs.ResolutionLaws.{HideFields}
use Rattle.law_code.specs.LinkedPackages.{AreLinked}
use Rattle.law_code.proofs.Lists.{AllOf, IfThere, any_so, map_there, then_there}
use Rattle.law_code.proofs.ClosedPackages.{anything}
use Rattle.law_code.proofs.EntryTargets.{entered, few_packages}
use Rattle.law_code.proofs.Numbers.{package_low, then_some, word_high}

abbrev pub IsHigh : ℕ → Type 0
IsHigh w = 64 ≤ w / 256

pub no_class : (p : Packages) (w : ℕ) → length p.loaded ≤ 32 → IsHigh w → (c : ClassValue) → class_in p w ≡ Some c → ⊥
unfolding class_in
no_class p w few high c is =
    let low = package_low p (w / 256) (then_some (λ q. slice_get q.classes _) (package_in p (w / 256)) (ap is_some is)) in
    absurd (omega (arith, few, high, low))

module _ (p : Packages) (few : length p.loaded ≤ 32) where
  superclass_high : (w : ℕ) → IsHigh w → (c : Option ClassValue) → class_in p w ≡ c → (o : Option PlatformClass) → IfThere IsHigh (superclass_by p c o)
  superclass_high w high (Some c) is o = absurd (no_class p w few high c is)
  superclass_high w high None is o = map_there (λ c. Unit {0}) IsHigh (class_word p.platform) (option_and_then superclass_of o)
      (anything (option_and_then superclass_of o)) (λ c none. word_high p.platform c)

  above_high : (w : ℕ) → IsHigh w → IfThere IsHigh (superclass_in p w)
  unfolding superclass_in
  above_high w high = superclass_high w high (class_in p w) refl (class_by_word p.platform w)

  pub lineage_high : (n : ℕ) (o : Option ℕ) → IfThere IsHigh o → AllOf IsHigh (lineage_from p n o)
  unfolding lineage_from
  lineage_high zero o high = tt
  lineage_high (suc n) None high = tt
  lineage_high (suc n) (Some w) high = (high, lineage_high n (superclass_in p w) (above_high w high))

  named_high : (cs : List PlatformClass) → AllOf (λ i. IsHigh i.interface) (platform_interfaces p cs)
  named_high [] = tt
  named_high (c ∷ cs) = (word_high p.platform c, named_high cs)

  interfaces_high : (w : ℕ) → IsHigh w → (c : Option ClassValue) → class_in p w ≡ c → (o : Option PlatformClass)
      → AllOf (λ i. IsHigh i.interface) (interfaces_by p c o)
  interfaces_high w high (Some c) is o = absurd (no_class p w few high c is)
  interfaces_high w high None is None = tt
  interfaces_high w high None is (Some c) = named_high (interfaces_of c)

  listed_high : (w : ℕ) → IsHigh w → AllOf (λ i. IsHigh i.interface) (interfaces_in p w)
  unfolding interfaces_in
  listed_high w high = interfaces_high w high (class_in p w) refl (class_by_word p.platform w)

  same_high : (w of : ℕ) → IsHigh w → (w == of) ≡ true → IsHigh of
  same_high w of high e = subst IsHigh (eqb-true w of e) high

  extended : (of n w : ℕ) → IsHigh w → extends_within p of n w ≡ true → IsHigh of
  unfolding extends_within
  extended of zero w high e = absurd (false≢true e)
  extended of (suc n) w high e = any_so (λ i. IsHigh i.interface) (IsHigh of) (λ i. i.interface == of ||
      (stands_before i.interface w && extends_within p of n i.interface)) (interfaces_in p w) (listed_high w high)
      (λ i each passes. elim (or_cases (i.interface == of) (stands_before i.interface w && extends_within p of n i.interface) passes) [
        | inl same ↦ same_high i.interface of each same
        | inr more ↦ extended of n i.interface each (and_parts (stands_before i.interface w) (extends_within p of n i.interface) more).1
      ]) e

  implemented : (w of : ℕ) → IsHigh w → implements p w of ≡ true → IsHigh of
  unfolding implements
  implemented w of high e = any_so (λ i. IsHigh i.interface) (IsHigh of) (λ i. i.interface == of || extends p i.interface of) (interfaces_in p w)
      (listed_high w high)
      (λ i each passes. elim (or_cases (i.interface == of) (extends p i.interface of) passes) [
        | inl same ↦ same_high i.interface of each same
        | inr more ↦ extended of most_classes i.interface each more
      ]) e

  any_high : (of : ℕ) (cs : List ℕ) → AllOf IsHigh cs → any_is p of cs ≡ true → IsHigh of
  unfolding any_is
  any_high of cs all e = any_so IsHigh (IsHigh of) (λ c. c == of || implements p c of) cs all
      (λ c high passes. elim (or_cases (c == of) (implements p c of) passes) [
        | inl same ↦ same_high c of high same
        | inr more ↦ implemented c of high more
      ]) e

  pub below_high : (w of : ℕ) → IsHigh w → is_below p w of ≡ true → IsHigh of
  unfolding is_below
  below_high w of high e = any_high of (lineage_from p most_classes (Some w)) (lineage_high most_classes (Some w) high) e

-- ---- what entries resolve to

pub some_there : {A B : Type 0} (Q : B → Type 0) (f : A → Option B) (o : Option A) → ((a : A) → IfThere Q (f a)) → IfThere Q (option_and_then f o)
some_there Q f o each = then_there (λ a. Unit {0}) Q f o (anything o) (λ a none. each a)

pub mapped_there : {A B : Type 0} (Q : B → Type 0) (f : A → B) (o : Option A) → ((a : A) → Q (f a)) → IfThere Q (option_map f o)
mapped_there Q f o each = map_there (λ a. Unit {0}) Q f o (anything o) (λ a none. each a)

mapped_so : {A B : Type 0} (Q : B → Type 0) (f : A → B) (o : Option A) → ((a : A) → o ≡ Some a → Q (f a)) → IfThere Q (option_map f o)
mapped_so Q f None each = tt
mapped_so Q f (Some a) each = each a refl

unless_so : (Q : Target → Type 0) (b : Bool) (o : Option Target) → (b ≡ false → IfThere Q o) → IfThere Q (if b then None else o)
unless_so Q true o each = tt
unless_so Q false o each = each refl

-- targets of all kinds have it
pub record IsOfTargets (p : Packages) (number : ℕ) (Q : Target → Type 0) : Type 0 where
  pub classes : (c : ClassRef) → IfThere Q (option_map targets.Class (class_named p number c))
  pub fields : (token class : ℕ) → IfThere Q (field_target p token class)
  pub virtual : (class : ℕ) (token : VirtualToken) (m : Method) → names_interface p class ≡ false → method_at p class (class / 256) token ≡ Some m
      → Q (targets.VirtualMethod class token m)
  pub super : (token : VirtualToken) (class : ℕ) → IfThere Q (super_target p token class)
  pub statics : (n offset : ℕ) → Q (targets.StaticField n offset)
  pub own : (offset : ℕ) → Q (targets.StaticMethod None (Code number offset))
  pub foreign : (class_token token n : ℕ) → IfThere Q (foreign_method p class_token token n)

pub of_entry : (p : Packages) (number : ℕ) (Q : Target → Type 0) → IsOfTargets p number Q → (e : Entry) → IfThere Q (resolution p number e)
unfolding resolution virtual_target foreign_field
of_entry p number Q all (entries.Class c) = all.classes c
of_entry p number Q all (entries.InstanceField c token) = some_there Q (field_target p token) (class_named p number c) (all.fields token)
of_entry p number Q all (entries.VirtualMethod c token) = some_there Q (virtual_target p token) (class_named p number c) (λ class.
    unless_so Q (names_interface p class) (option_map (targets.VirtualMethod class token) (method_at p class (class / 256) token)) (λ plain.
    mapped_so Q (targets.VirtualMethod class token) (method_at p class (class / 256) token) (λ m. all.virtual class token m plain)))
of_entry p number Q all (entries.SuperMethod c token) = some_there Q (super_target p token) (class_named p number c) (all.super token)
of_entry p number Q all (entries.StaticField (statics.Internal offset)) = all.statics number offset
of_entry p number Q all (entries.StaticField (statics.External package_token class_token token)) =
    some_there Q (foreign_field p class_token token) (import_by_token p number package_token) (λ n.
    some_there Q (λ x. option_map (targets.StaticField n) (slice_get x.field_offsets token)) (export_of p n class_token)
    (λ x. mapped_there Q (targets.StaticField n) (slice_get x.field_offsets token) (all.statics n)))
of_entry p number Q all (entries.StaticMethod (statics.Internal offset)) = all.own offset
of_entry p number Q all (entries.StaticMethod (statics.External package_token class_token token)) =
    some_there Q (foreign_method p class_token token) (import_by_token p number package_token) (all.foreign class_token token)

-- all fields have it, or all methods of superclasses, or all static methods of other packages do
field_there : (Q : Target → Type 0) (b : Bool) (t : Target) → Q t → IfThere Q (if b then Some t else None)
field_there Q true t is = is
field_there Q false t is = tt

pub any_field : (p : Packages) (Q : Target → Type 0) → ((class cell : ℕ) (reference : Bool) → Q (targets.InstanceField class cell reference))
    → (token class : ℕ) → IfThere Q (field_target p token class)
unfolding field_target
any_field p Q each token class = some_there Q (field_of class token) (class_in p class)
    (λ c. field_there Q (nat_lt token c.declared_cells) (targets.InstanceField class (c.inherited_cells + token) (declares_reference c token))
    (each class (c.inherited_cells + token) (declares_reference c token)))

pub any_super : (p : Packages) (Q : Target → Type 0) → ((class : ℕ) (m : Method) → Q (targets.SuperMethod class m)) → (token : VirtualToken) (class : ℕ)
    → IfThere Q (super_target p token class)
unfolding super_target
any_super p Q each token class = some_there Q (λ above. option_map (targets.SuperMethod class) (method_at p above (class / 256) token)) (superclass_in p class)
    (λ above. mapped_there Q (targets.SuperMethod class) (method_at p above (class / 256) token) (each class))

pub any_foreign : (p : Packages) (Q : Target → Type 0) → ((class : ℕ) (m : Method) → Q (targets.StaticMethod (Some class) m)) → (class_token token n : ℕ)
    → IfThere Q (foreign_method p class_token token n)
unfolding foreign_method
any_foreign p Q each class_token token n = some_there Q (λ class. option_map (targets.StaticMethod (Some class))
    (static_method_by p n class token (export_of p n class_token))) (class_with_token p n class_token)
    (λ class. mapped_there Q (targets.StaticMethod (Some class)) (static_method_by p n class token (export_of p n class_token)) (each class))

-- ---- an entry that resolves to a field names one of a loaded class

abbrev pub IsLoaded : Packages → Target → Type 0
IsLoaded p (targets.InstanceField class cell reference) = (c : ClassValue) × (token : ℕ) × (class_in p class ≡ Some c) × (token < c.declared_cells)
    × (cell ≡ c.inherited_cells + token) × (reference ≡ declares_reference c token)
IsLoaded p _ = Unit {0}

by_declared : (p : Packages) (class token : ℕ) (c : ClassValue) → class_in p class ≡ Some c → (b : Bool) → nat_lt token c.declared_cells ≡ b
    → IfThere (IsLoaded p) (if b then Some (targets.InstanceField class (c.inherited_cells + token) (declares_reference c token)) else None)
by_declared p class token c is true less = (c, token, is, ltb-true token c.declared_cells less, refl, refl)
by_declared p class token c is false less = tt

by_class : (p : Packages) (class token : ℕ) (o : Option ClassValue) → class_in p class ≡ o → IfThere (IsLoaded p) (option_and_then (field_of class token) o)
by_class p class token None is = tt
by_class p class token (Some c) is = by_declared p class token c is (nat_lt token c.declared_cells) refl

field_loaded : (p : Packages) (token class : ℕ) → IfThere (IsLoaded p) (field_target p token class)
unfolding field_target
field_loaded p token class = by_class p class token (class_in p class) refl

entry_loaded : (p : Packages) (number : ℕ) (e : Entry) → IfThere (IsLoaded p) (resolution p number e)
entry_loaded p number e = of_entry p number (IsLoaded p) (record {
  classes = λ c. mapped_there (IsLoaded p) targets.Class (class_named p number c) (λ class. tt);
  fields = field_loaded p;
  virtual = λ class token m plain found. tt;
  super = any_super p (IsLoaded p) (λ class m. tt);
  statics = λ n offset. tt;
  own = λ offset. tt;
  foreign = any_foreign p (IsLoaded p) (λ class m. tt);
}) e

pub named_field : (cs : List LinkerComponents) (p : Packages) → AreLinked cs p → (number index class cell : ℕ) (reference : Bool)
    → target_at p number index ≡ Some (targets.InstanceField class cell reference) → IsLoaded p (targets.InstanceField class cell reference)
named_field cs p linked number index class cell reference is =
    let entry = entered cs p linked number index (targets.InstanceField class cell reference) is in
    subst (IfThere (IsLoaded p)) entry.1 (entry_loaded p number entry.0)

pub hide_fields : HideFields
hide_fields cs p linked number index class cell reference is of below =
    let few = few_packages cs p linked in
    let loaded = named_field cs p linked number index class cell reference is in
    no_class p class few (below_high p few (class_word p.platform of) class (word_high p.platform of) below) loaded.0 loaded.2
