-- The classes of linked packages inherit their superclasses' cells, and list interfaces alone.
use Rattle.std.proofs.Common.{◌≡◌, ℕ, suc, ◌+◌, ◌-◌, ◌*◌, ◌/◌, ◌%◌, ◌<◌, ◌≤◌, ◌⊎◌, inl, inr, ◌==◌, ◌&&◌, Bool, true, false, List, [], ◌∷◌, ◌++◌, Option, Some}
use Rattle.std.proofs.Common.{None, length, length-append, refl, sym, subst, ap, arith, ◌∙◌, not, if◌then◌else◌}
use Rattle.std.specs.Prelude.{min, slice_get}
use Rattle.std.specs.List.{list_all}
use Rattle.std.specs.Option.{option_and_then}
use Rattle.std.proofs.lemmas.Bool.{and_parts, cases_eq, eq-eqb, false≢true, ne_eqb}
use Rattle.std.proofs.lemmas.Option.{none-some}
use Rattle.jc_platform.specs.Platform.{class_by_word}
use Rattle.jc_linker.specs.Classes.{class_in, is_class, package_in, size_by, size_of}
use Rattle.jc_linker.specs.Resolve.{names_interface}
use Rattle.jc_linker.specs.Values.{ClassValue, Implementation, PackageValue, Packages}
use Rattle.jc_linker.specs.Values.{LinkerComponents}
use Rattle.jc_linker.specs.Linking.{cells_above, cells_in, next_number, with_classes, with_package}
use Rattle.jc_linker.specs.Completeness.{are_complete_from, has_superclass, inherits_from, is_implemented, is_complete}
use Rattle.law_code.specs.LinkedPackages.{AreLinked, AreLinkedAgainst, IsLinkedAgainst}
use Rattle.law_code.proofs.Alike.{interface_alike, size_alike}
use Rattle.law_code.proofs.ClosedPackages.{IsBeside, IsClosed, IsClosedClass, alike, class_closed}
use Rattle.law_code.proofs.EntryTargets.{there as some_at}
use Rattle.law_code.proofs.ClassFacts.{either}
use Rattle.law_code.proofs.ResolutionLaws.{package_last, told_alike}
use Rattle.law_code.proofs.LinkAnswers.{closed_next, imports_stand, made}
use Rattle.law_code.proofs.Lists.{AllOf, IfThere, all_at, all_more}
use Rattle.law_code.proofs.Nameless.{nameless, no_class_there}
use Rattle.law_code.proofs.Numbers.{Stands, stands_beside}
use Rattle.law_code.specs.ReadPackages.{HasClassComponent}
use Rattle.law_code.proofs.Inherits.{Inherits, all_inherit}

abbrev pub AreInterfaces : Packages → List Implementation → Type 0
AreInterfaces p is = AllOf (λ i. names_interface p i.interface ≡ true) is

-- its superclass has a word that may name a class
abbrev pub HasNamedAbove : ClassValue → Type 0
HasNamedAbove c = c.is_interface ≡ false → c.superclass ≡ nameless → ⊥

-- a loaded class inherits the cells of its superclass, which is named, holds references in cells of its own, and lists interfaces
pub record IsGood (p : Packages) (c : ClassValue) : Type 0 where
  pub inherits : c.is_interface ≡ false → c.inherited_cells ≡ min 65536 (size_of p c.superclass)
  pub bare : c.is_interface ≡ true → c.declared_cells ≡ 0
  pub fits : (c.reference_count ≡ 0) ⊎ (c.first_reference + c.reference_count ≤ c.declared_cells)
  pub interfaces : AreInterfaces p c.interfaces
  pub above : HasNamedAbove c

abbrev pub AllGood : Packages → Type 0
AllGood p = (w : ℕ) (c : ClassValue) → class_in p w ≡ Some c → IsGood p c

both_of : {A : Type 0} (P Q R : A → Type 0) (xs : List A) → ((x : A) → P x → Q x → R x) → AllOf P xs → AllOf Q xs → AllOf R xs
both_of P Q R [] each first second = tt
both_of P Q R (x ∷ xs) each first second = (each x first.0 second.0, both_of P Q R xs each first.1 second.1)

-- ---- what a linked package's classes list

carried_interfaces : (p : Packages) (number class : ℕ) (is : List Implementation) → list_all (is_implemented p number class) is ≡ true → AreInterfaces p is
carried_interfaces p number class [] all = tt
carried_interfaces p number class (i ∷ is) all =
    let a = and_parts (is_implemented p number class i) (list_all (is_implemented p number class) is) all in
    ((and_parts (names_interface p i.interface) _ a.0).0, carried_interfaces p number class is a.1)

class_lists : (p : Packages) (number class : ℕ) (c : ClassValue) → is_complete p number class c ≡ true → AreInterfaces p c.interfaces
unfolding is_complete
class_lists p number class c whole =
    let a = and_parts (has_superclass p c && list_all (is_implemented p number class) c.interfaces)
    (inherits_from p number c.superclass c.public_methods.base c.public_methods.offsets) whole in
    carried_interfaces p number class c.interfaces (and_parts (has_superclass p c) (list_all (is_implemented p number class) c.interfaces) a.0).1

classes_list : (p : Packages) (number class : ℕ) (cs : List ClassValue) → are_complete_from p number class cs ≡ true
    → AllOf (λ c. AreInterfaces p c.interfaces) cs
unfolding are_complete_from
classes_list p number class [] whole = tt
classes_list p number class (c ∷ cs) whole =
    let a = and_parts (is_complete p number class c) (are_complete_from p number (class + 1) cs) whole in
    (class_lists p number class c a.0, classes_list p number (class + 1) cs a.1)

above_named : (p : Packages) (number class : ℕ) (c : ClassValue) → length p.loaded ≤ 32 → is_complete p number class c ≡ true → HasNamedAbove c
unfolding is_complete
above_named p number class c few whole plain is =
    let a = and_parts (has_superclass p c && list_all (is_implemented p number class) c.interfaces)
    (inherits_from p number c.superclass c.public_methods.base c.public_methods.offsets) whole in
    let has = (and_parts (has_superclass p c) (list_all (is_implemented p number class) c.interfaces) a.0).0 in
    let there = and_parts (is_class p c.superclass) (not (names_interface p c.superclass)) (either c.is_interface _ has plain) in
    no_class_there p few (subst (λ w. is_class p w ≡ true) is there.0)

classes_named : (p : Packages) (number class : ℕ) (cs : List ClassValue) → length p.loaded ≤ 32 → are_complete_from p number class cs ≡ true
    → AllOf HasNamedAbove cs
unfolding are_complete_from
classes_named p number class [] few whole = tt
classes_named p number class (c ∷ cs) few whole =
    let a = and_parts (is_complete p number class c) (are_complete_from p number (class + 1) cs) whole in
    (above_named p number class c few a.0, classes_named p number (class + 1) cs few a.1)

-- ---- one more package

there_at : {A : Type 0} (P : A → Type 0) (o : Option A) (x : A) → o ≡ Some x → IfThere P o → P x
there_at P o x is there = subst (IfThere P) is there

module _ (p : Packages) (q : PackageValue) (closed : IsClosed p) (room : length p.loaded < 32) where
  abbrev next : Packages
  next = with_package p q

  abbrev Aside : ℕ → Type 0
  Aside w = IsBeside p q closed room w

  aside : (w : ℕ) → Stands (length p.loaded) (w / 256) → Aside w
  aside w stands = stands_beside (length p.loaded) (w / 256) room stands

  size_stays : (w : ℕ) → Aside w → size_of next w ≡ size_of p w
  size_stays w other = size_alike p (p.loaded ++ q ∷ []) Aside (alike p q closed room) w other

  good_stays : (c : ClassValue) → IsClosedClass (length p.loaded) c → IsGood p c → IsGood next c
  good_stays c closes good = record {
    inherits = λ class. good.inherits class ∙ ap (min 65536) (sym (size_stays c.superclass (aside c.superclass (elim closes.0 [
      | inl interface ↦ absurd (false≢true (sym class ∙ interface))
      | inr stands ↦ stands
    ]))));
    bare = good.bare;
    fits = good.fits;
    interfaces = both_of (λ i. names_interface p i.interface ≡ true) (λ i. Stands (length p.loaded) (i.interface / 256))
        (λ i. names_interface next i.interface ≡ true) c.interfaces
        (λ i is stands. interface_alike p (p.loaded ++ q ∷ []) Aside (alike p q closed room) i.interface (aside i.interface stands) ∙ is) good.interfaces
        closes.1;
    above = good.above;
  }

  old_good : AllGood p → (w : ℕ) (c : ClassValue) → Aside w → class_in next w ≡ Some c → IsGood next c
  old_good good w c other is =
      let was : class_in p w ≡ Some c = sym ((alike p q closed room).class w other) ∙ is in
      good_stays c (there_at (IsClosedClass (length p.loaded)) (class_in p w) c was (class_closed p closed w)) (good w c was)

  -- a class of the package that came in
  pub class_last : (w : ℕ) → w / 256 ≡ next_number p → class_in next w ≡ slice_get q.classes (w % 256)
  unfolding class_in
  class_last w here = ap (λ n. option_and_then (λ r. slice_get r.classes (w % 256)) (package_in next n)) here
      ∙ ap (option_and_then (λ r. slice_get r.classes (w % 256))) (package_last p q)

  size_last : (w : ℕ) → w / 256 ≡ next_number p → w % 256 < length q.classes → size_of next w ≡ cells_in (slice_get q.classes (w % 256))
  unfolding size_of
  size_last w here less =
      let at = some_at q.classes (w % 256) less in
      ap (λ o. size_by o (class_by_word p.platform w)) (class_last w here ∙ at.1) ∙ ap cells_in (sym at.1)

  above_all : (w : ℕ) → (w / 256 ≡ next_number p → w % 256 < length q.classes) → cells_above p (next_number p) q.classes w ≡ min 65536 (size_of next w)
  above_all w back = elim (cases_eq (w / 256) (next_number p)) [
    | inl here ↦ ap (λ b. min 65536 (if b then cells_in (slice_get q.classes (w % 256)) else size_of p w)) (eq-eqb (w / 256) (next_number p) here)
        ∙ ap (min 65536) (sym (size_last w here (back here)))
    | inr other ↦ ap (λ b. min 65536 (if b then cells_in (slice_get q.classes (w % 256)) else size_of p w)) (ne_eqb (w / 256) (next_number p) other)
        ∙ ap (min 65536) (sym (size_stays w other))
  ]

  pub good_behind : AllGood p → AllOf (Inherits p (next_number p) q.classes) q.classes → AllOf (λ c. AreInterfaces next c.interfaces) q.classes
      → AllOf HasNamedAbove q.classes → AllGood next
  good_behind good inherit list named w c is = elim (cases_eq (w / 256) (next_number p)) [
    | inr other ↦ old_good good w c other is
    | inl here ↦
        let at : slice_get q.classes (w % 256) ≡ Some c = sym (class_last w here) ∙ is in
        let i = there_at (Inherits p (next_number p) q.classes) (slice_get q.classes (w % 256)) c at
        (all_at (Inherits p (next_number p) q.classes) q.classes (w % 256) inherit) in
        record {
          inherits = λ class. i.cells class ∙ above_all c.superclass (i.back class);
          bare = i.bare;
          fits = i.fits;
          interfaces = there_at (λ d. AreInterfaces next d.interfaces) (slice_get q.classes (w % 256)) c at
              (all_at (λ d. AreInterfaces next d.interfaces) q.classes (w % 256) list);
          above = there_at HasNamedAbove (slice_get q.classes (w % 256)) c at (all_at HasNamedAbove q.classes (w % 256) named);
        }
  ]

good_next : (p : Packages) (c : LinkerComponents) (q : PackageValue) → IsClosed p → AllGood p → HasClassComponent c → IsLinkedAgainst p c q
    → AllGood (with_package p q)
good_next p c q closed good component linked =
    let m = made p c q linked.2 in
    let first = with_classes p c m.imports in
    let classes : q.classes ≡ first.classes = ap (λ r. r.classes) m.is in
    let inherit = all_inherit p c m.imports closed linked.0 (imports_stand p c.imports m.imports m.imported) component.0 component.1 component.2 in
    let list = classes_list (with_package p first) (next_number p) (256 * next_number p) first.classes m.whole in
    let longer = length-append p.loaded (first ∷ []) in
    let less = linked.0 in
    let above = classes_named (with_package p first) (next_number p) (256 * next_number p) first.classes (omega (arith, longer, less)) m.whole in
    let told : (i : Implementation) → names_interface (with_package p first) i.interface ≡ true → names_interface (with_package p q) i.interface ≡ true =
    λ i is. ap (λ r. names_interface (with_package p r) i.interface) m.is ∙ interface_alike (with_package p first)
    (p.loaded ++ record first { targets = m.targets } ∷ []) (λ w. Unit {0}) (told_alike p first m.targets) i.interface tt ∙ is in
    let named : AllOf (λ d. AreInterfaces (with_package p q) d.interfaces) first.classes =
    all_more (λ d. AreInterfaces (with_package p first) d.interfaces) (λ d. AreInterfaces (with_package p q) d.interfaces)
    (λ d each. all_more (λ i. names_interface (with_package p first) i.interface ≡ true)
    (λ i. names_interface (with_package p q) i.interface ≡ true) told d.interfaces each) first.classes list in
    good_behind p q closed linked.0 good
    (subst (λ l. AllOf (Inherits p (next_number p) l) l) (sym classes) inherit)
    (subst (AllOf (λ d. AreInterfaces (with_package p q) d.interfaces)) (sym classes) named)
    (subst (AllOf HasNamedAbove) (sym classes) above)

abbrev pub AllRead : List LinkerComponents → Type 0
AllRead cs = (i : ℕ) (c : LinkerComponents) → slice_get cs i ≡ Some c → HasClassComponent c

good_onto : (cs : List LinkerComponents) (p all : Packages) → IsClosed p → AllGood p → AllRead cs → AreLinkedAgainst p cs all → AllGood all
good_onto [] p all closed good read linked = subst AllGood (sym linked) good
good_onto (c ∷ cs) p all closed good read linked =
    good_onto cs (with_package p linked.0) all (closed_next p c linked.0 closed linked.1) (good_next p c linked.0 closed good (read 0 c refl) linked.1)
    (λ i d at. read (suc i) d at) linked.2

nothing_in : (none : Bool) (n : ℕ) → (if none then None else slice_get {X = PackageValue} [] n) ≡ None
nothing_in true n = refl
nothing_in false n = refl

pub none_loaded : (p : Packages) (w : ℕ) (c : ClassValue) → class_in (record p { loaded = [] }) w ≡ Some c → ⊥
unfolding class_in package_in
none_loaded p w c is = none-some c (sym (ap (option_and_then (λ q. slice_get q.classes (w % 256))) (nothing_in (w / 256 == 0) (w / 256 - 1))) ∙ is)

no_classes : (p : Packages) → AllGood (record p { loaded = [] })
no_classes p w c is = absurd (none_loaded p w c is)

pub all_good : (cs : List LinkerComponents) (p : Packages) → AreLinked cs p → AllRead cs → AllGood p
all_good cs p linked read = good_onto cs (record p { loaded = [] }) p tt (no_classes p) read linked
