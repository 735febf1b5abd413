-- A package that linking answered, and that it names no other number than those that stand.
use Rattle.std.proofs.Common.{◌≡◌, ℕ, zero, suc, ◌+◌, ◌*◌, ◌/◌, ◌<◌, ◌≤◌, ◌⊎◌, inl, inr, ◌&&◌, Bool, true, false, not, List, [], ◌∷◌, ◌++◌, Option, Some}
use Rattle.std.proofs.Common.{None, Result, Ok, Err, length, length-append, refl, sym, subst, ap, ◌∙◌, arith, if◌then◌else◌}
use Rattle.std.specs.Prelude.{slice_get, position}
use Rattle.std.specs.List.{list_all}
use Rattle.std.specs.Option.{option_map, option_or}
use Rattle.std.specs.Str.{bytes_eq}
use Rattle.std.proofs.lemmas.Bool.{and_parts}
use Rattle.std.proofs.lemmas.List.Quantifiers.{position-Some}
use Rattle.jc_platform.specs.Platform.{package_by_aid}
use Rattle.jc_platform.specs.Tokens.{number_in}
use Rattle.jc_cap.specs.Packages.{NamedPackage}
use Rattle.jc_cap.specs.declared.pool.Entry.{Entry}
use Rattle.jc_cap.specs.ClassValues.{RecordAt}
use Rattle.jc_linker.specs.declared.target.Target.{Target}
use Rattle.jc_linker.specs.Classes.{is_class}
use Rattle.jc_linker.specs.Lookups.{package_with_aid}
use Rattle.jc_linker.specs.Resolve.{names_interface, resolution}
use Rattle.jc_linker.specs.Values.{ClassValue, Implementation, PackageValue, Packages}
use Rattle.jc_linker.specs.Values.{LinkerComponents}
use Rattle.jc_linker.specs.declared.fault.LinkFault.{LinkFault}
use Rattle.jc_linker.specs.declared.fault.LinkFault.TheVariants.{ImportMissing, ImportVersion, Unresolved}
use Rattle.jc_linker.specs.Answers.{then_on}
use Rattle.jc_linker.specs.Imports.{fits, if_fits, import_number, import_numbers, version_of}
use Rattle.jc_linker.specs.Linking.{class_by_record, classes_behind, if_resolved, if_complete, link_result, next_number, resolved_package, targets_from}
use Rattle.jc_linker.specs.Linking.{with_classes, with_package}
use Rattle.jc_linker.specs.Outlines.{package_outline}
use Rattle.jc_linker.specs.Completeness.{are_complete, are_complete_from, has_superclass, inherits_from, is_implemented, is_complete}
use Rattle.law_code.specs.LinkedPackages.{IsLinkedAgainst}
use Rattle.law_code.proofs.Lists.{AllOf, IfThere, all_behind, all_more, map_there}
use Rattle.law_code.proofs.Numbers.{Stands, class_stands, interface_stands, platform_high, stands_more, one_of}
use Rattle.law_code.proofs.ClosedPackages.{IsClosed, IsClosedClass, IsClosedPackage, anything, package_more}

-- ---- what answered

abbrev IsOk : {A : Type 0} → Result A LinkFault → Type 0
IsOk (Ok x) = Unit {0}
IsOk (Err e) = ⊥

no_fault : {A : Type 0} (e : LinkFault) (x : A) → Err e ≡ Ok x → ⊥
no_fault e x is = subst IsOk (sym is) tt

abbrev value_or : {A : Type 0} → A → Result A LinkFault → A
value_or d (Ok x) = x
value_or d (Err e) = d

abbrev as_ok : {A : Type 0} → A → Result A LinkFault
as_ok x = Ok x

pub ok_value : {A : Type 0} (x y : A) → as_ok x ≡ as_ok y → x ≡ y
ok_value x y is = ap (value_or x) is

then_ok : {A B : Type 0} (r : Result A LinkFault) (f : A → Result B LinkFault) (y : B) → then_on r f ≡ Ok y → (x : A) × (r ≡ Ok x) × (f x ≡ Ok y)
then_ok (Ok x) f y is = (x, refl, is)
then_ok (Err e) f y is = absurd (no_fault e y is)

when_true : {A : Type 0} (b : Bool) (x y : A) (e : LinkFault) → (if b then Ok x else Err e) ≡ Ok y → (b ≡ true) × (y ≡ x)
when_true true x y e is = (refl, sym (ok_value x y is))
when_true false x y e is = absurd (no_fault e y is)

-- the package as it is linked, with the numbers that it imports and what its entries resolve to
pub record IsMade (p : Packages) (c : LinkerComponents) (q : PackageValue) : Type 0 where
  pub imports : List ℕ
  pub targets : List Target
  pub imported : import_numbers p c.imports ≡ Ok imports
  pub resolves : targets_from (with_package p (with_classes p c imports)) (next_number p) 0 c.pool ≡ Ok targets
  pub whole : are_complete (with_package p (with_classes p c imports)) (next_number p) (with_classes p c imports).classes ≡ true
  pub is : q ≡ record (with_classes p c imports) { targets = targets }

pub made : (p : Packages) (c : LinkerComponents) (q : PackageValue) → link_result p c ≡ Ok q → IsMade p c q
unfolding link_result
made p c q is =
    let a = then_ok (import_numbers p c.imports) (λ ns. resolved_package p c (with_classes p c ns)) q is in
    let first = with_classes p c a.0 in
    let b = then_ok (targets_from (with_package p first) (next_number p) 0 c.pool) (if_complete p first) q a.2 in
    let w = when_true (are_complete (with_package p first) (next_number p) first.classes) (record first { targets = b.0 }) q (Unresolved 65535) b.2 in
    record { imports = a.0; targets = b.0; imported = a.1; resolves = b.1; whole = w.0; is = w.1 }

-- ---- entries

abbrev Parts : Option Target → Result (List Target) LinkFault → List Target → Type 0
Parts o others ts = (t : Target) × (rest : List Target) × (o ≡ Some t) × (others ≡ Ok rest) × (ts ≡ t ∷ rest)

parts : (index : ℕ) (o : Option Target) (others : Result (List Target) LinkFault) (ts : List Target) → if_resolved index o others ≡ Ok ts → Parts o others ts
parts index None others ts is = absurd (no_fault (Unresolved index) ts is)
parts index (Some t) (Err e) ts is = absurd (no_fault e ts is)
parts index (Some t) (Ok rest) ts is = (t, rest, refl, refl, sym (ok_value (t ∷ rest) ts is))

abbrev there_or : {A : Type 0} → A → Option A → A
there_or d None = d
there_or d (Some x) = x

pub some_value : {A : Type 0} (x y : A) → Some x ≡ Some y → x ≡ y
some_value x y is = ap (there_or x) is

abbrev pub IsSome : {A : Type 0} → Option A → Type 0
IsSome None = ⊥
IsSome (Some x) = Unit {0}

not_none : {A : Type 0} (x : A) → None ≡ Some x → ⊥
not_none x is = subst IsSome (sym is) tt

pub target_of_entry : (p : Packages) (n index : ℕ) (es : List Entry) (ts : List Target) → targets_from p n index es ≡ Ok ts → (j : ℕ) (e : Entry)
    → slice_get es j ≡ Some e →
    (t : Target) × (resolution p n e ≡ Some t) × (slice_get ts j ≡ Some t)
unfolding targets_from
target_of_entry p n index [] ts is j e at = absurd (not_none e at)
target_of_entry p n index (first ∷ es) ts is zero e at =
    let a = parts index (resolution p n first) (targets_from p n (index + 1) es) ts is in
    (a.0, ap (resolution p n) (sym (some_value first e at)) ∙ a.2, ap (λ l. slice_get l 0) a.4)
target_of_entry p n index (first ∷ es) ts is (suc j) e at =
    let a = parts index (resolution p n first) (targets_from p n (index + 1) es) ts is in
    let b = target_of_entry p n (index + 1) es a.1 a.3 j e at in
    (b.0, b.1, ap (λ l. slice_get l (suc j)) a.4 ∙ b.2)

pub target_past : (p : Packages) (n index : ℕ) (es : List Entry) (ts : List Target) → targets_from p n index es ≡ Ok ts → (j : ℕ) → slice_get es j ≡ None
    → slice_get ts j ≡ None
unfolding targets_from
target_past p n index [] ts is j at = ap (λ l. slice_get l j) (sym (ok_value [] ts is))
target_past p n index (first ∷ es) ts is zero at = absurd (not_none first (sym at))
target_past p n index (first ∷ es) ts is (suc j) at =
    let a = parts index (resolution p n first) (targets_from p n (index + 1) es) ts is in
    ap (λ l. slice_get l (suc j)) a.4 ∙ target_past p n (index + 1) es a.1 a.3 j at

-- ---- imports

or_there : {A : Type 0} (P : A → Type 0) (a b : Option A) → IfThere P a → IfThere P b → IfThere P (option_or a b)
or_there P None b first second = second
or_there P (Some x) b first second = first

place_stands : (p : Packages) (aid : List ℕ) (o : Option ℕ) → ((i : ℕ) → o ≡ Some i → i < length p.loaded)
    → IfThere (Stands (length p.loaded)) (option_map (λ i. i + 1) o)
place_stands p aid None low = tt
place_stands p aid (Some i) low = let less = low i refl in inl (omega (arith, less))

-- a place in a list is below its length
position_low : {A : Type 0} (test : A → Bool) (xs : List A) (i : ℕ) → position test xs ≡ Some i → i < length xs
position_low test [] i is = absurd (not_none i is)
position_low test (x ∷ xs) i is = (position-Some test (x ∷ xs) i x is).0

found_stands : (p : Packages) (aid : List ℕ) → IfThere (Stands (length p.loaded)) (package_with_aid p aid)
unfolding package_with_aid
found_stands p aid =
    or_there (Stands (length p.loaded)) (option_map (number_in p.platform) (package_by_aid p.platform aid))
    (option_map (λ i. i + 1) (position (λ q. bytes_eq q.name.aid aid) p.loaded))
    (map_there (λ c. Unit {0}) (Stands (length p.loaded)) (number_in p.platform) (package_by_aid p.platform aid) (anything (package_by_aid p.platform aid))
    (λ c none. inr (platform_high p.platform c)))
    (place_stands p aid (position (λ q. bytes_eq q.name.aid aid) p.loaded) (position_low (λ q. bytes_eq q.name.aid aid) p.loaded))

fits_stands : (p : Packages) (i : NamedPackage) (o : Option ℕ) (n : ℕ) → if_fits p i o ≡ Ok n → IfThere (Stands (length p.loaded)) o
    → Stands (length p.loaded) n
fits_stands p i None n is there = absurd (no_fault ImportMissing n is)
fits_stands p i (Some m) n is there = subst (Stands (length p.loaded)) (sym (when_true (fits i (version_of p m)) m n ImportVersion is).1) there

import_stands : (p : Packages) (i : NamedPackage) (n : ℕ) → import_number p i ≡ Ok n → Stands (length p.loaded) n
unfolding import_number
import_stands p i n is = fits_stands p i (package_with_aid p i.aid) n is (found_stands p i.aid)

pub imports_stand : (p : Packages) (is : List NamedPackage) (ns : List ℕ) → import_numbers p is ≡ Ok ns → AllOf (Stands (length p.loaded)) ns
unfolding import_numbers
imports_stand p [] ns are = subst (AllOf (Stands (length p.loaded))) (ok_value [] ns are) tt
imports_stand p (i ∷ is) ns are =
    let a = then_ok (import_number p i) (λ n. then_on (import_numbers p is) (λ rest. Ok (n ∷ rest))) ns are in
    let b = then_ok (import_numbers p is) (λ rest. Ok (a.0 ∷ rest)) ns a.2 in
    subst (AllOf (Stands (length p.loaded))) (ok_value (a.0 ∷ b.0) ns b.2) (import_stands p i a.0 a.1, imports_stand p is b.0 b.1)

-- ---- classes

carried_stand : (p : Packages) (number class : ℕ) (is : List Implementation) → list_all (is_implemented p number class) is ≡ true
    → AllOf (λ i. Stands (length p.loaded) (i.interface / 256)) is
carried_stand p number class [] all = tt
carried_stand p number class (i ∷ is) all =
    let a = and_parts (is_implemented p number class i) (list_all (is_implemented p number class) is) all in
    (interface_stands p i.interface (and_parts (names_interface p i.interface) _ a.0).0, carried_stand p number class is a.1)

superclass_stands : (p : Packages) (c : ClassValue) → has_superclass p c ≡ true → (c.is_interface ≡ true) ⊎ Stands (length p.loaded) (c.superclass / 256)
superclass_stands p c has = elim (one_of c.is_interface (is_class p c.superclass && not (names_interface p c.superclass)) has) [
  | inl e ↦ inl e
  | inr e ↦ inr (class_stands p c.superclass (and_parts (is_class p c.superclass) (not (names_interface p c.superclass)) e).0)
]

class_whole : (p : Packages) (number class : ℕ) (c : ClassValue) → is_complete p number class c ≡ true → IsClosedClass (length p.loaded) c
unfolding is_complete
class_whole p number class c whole =
    let a = and_parts (has_superclass p c && list_all (is_implemented p number class) c.interfaces)
    (inherits_from p number c.superclass c.public_methods.base c.public_methods.offsets) whole in
    let b = and_parts (has_superclass p c) (list_all (is_implemented p number class) c.interfaces) a.0 in
    (superclass_stands p c b.0, carried_stand p number class c.interfaces b.1)

classes_whole : (p : Packages) (number class : ℕ) (cs : List ClassValue) → are_complete_from p number class cs ≡ true
    → AllOf (IsClosedClass (length p.loaded)) cs
unfolding are_complete_from
classes_whole p number class [] whole = tt
classes_whole p number class (c ∷ cs) whole =
    let a = and_parts (is_complete p number class c) (are_complete_from p number (class + 1) cs) whole in
    (class_whole p number class c a.0, classes_whole p number (class + 1) cs a.1)

as_many : (p names : Packages) (number : ℕ) (done : List ClassValue) (rs : List RecordAt)
    → length (classes_behind p names number done rs) ≡ length done + length rs
unfolding classes_behind
as_many p names number done [] = omega arith
as_many p names number done (r ∷ rs) =
    let one = length-append done (class_by_record p names number done r.offset r.contents ∷ []) in
    let all = as_many p names number (done ++ class_by_record p names number done r.offset r.contents ∷ []) rs in
    omega (arith, one, all)

-- ---- the packages with it

pub longer : (p : Packages) (q : PackageValue) → length (with_package p q).loaded ≡ length p.loaded + 1
longer p q = length-append p.loaded (q ∷ [])

made_closed : (p : Packages) (c : LinkerComponents) (q : PackageValue) → length c.classes ≤ 256 → IsMade p c q → IsClosedPackage (length p.loaded + 1) q
made_closed p c q few m =
    let first = with_classes p c m.imports in
    let whole = subst (λ n. AllOf (IsClosedClass n) first.classes) (longer p first)
    (classes_whole (with_package p first) (next_number p) (256 * next_number p) first.classes m.whole) in
    let count = as_many p (with_package p (package_outline c m.imports)) (next_number p) [] c.classes in
    subst (IsClosedPackage (length p.loaded + 1)) (sym m.is) (record {
      few = omega (arith, count, few);
      classes = whole;
      imports = all_more (Stands (length p.loaded)) (Stands (length p.loaded + 1)) (λ n each. stands_more (length p.loaded) (length p.loaded + 1) n
          (omega arith) each) m.imports (imports_stand p c.imports m.imports m.imported);
    })

pub closed_next : (p : Packages) (c : LinkerComponents) (q : PackageValue) → IsClosed p → IsLinkedAgainst p c q → IsClosed (with_package p q)
closed_next p c q closed linked =
    subst (λ n. AllOf (IsClosedPackage n) (p.loaded ++ q ∷ [])) (sym (longer p q))
    (all_behind (IsClosedPackage (length p.loaded + 1)) p.loaded q
    (all_more (IsClosedPackage (length p.loaded)) (IsClosedPackage (length p.loaded + 1))
    (package_more (length p.loaded) (length p.loaded + 1) (omega arith)) p.loaded closed)
    (made_closed p c q linked.1 (made p c q linked.2)))
