-- A class of a linked package stands after its superclass.
use Rattle.std.proofs.Common.{◌≡◌, ℕ, zero, suc, ◌/◌, ◌%◌, ◌<◌, ◌≤◌, ◌⊎◌, inl, inr, false, List, [], ◌∷◌, ◌++◌, Some, length, refl, sym, subst, ap, ◌∙◌, arith}
use Rattle.std.specs.Prelude.{slice_get}
use Rattle.std.specs.Option.{option_and_then}
use Rattle.std.proofs.lemmas.Bool.{cases_eq, false≢true}
use Rattle.std.proofs.lemmas.Option.{none-some, same_Some}
use Rattle.jc_linker.specs.Classes.{class_in}
use Rattle.jc_linker.specs.Values.{ClassValue, PackageValue, Packages}
use Rattle.jc_linker.specs.Values.{LinkerComponents}
use Rattle.jc_linker.specs.Linking.{next_number, with_classes, with_package}
use Rattle.law_code.specs.LinkedPackages.{AreLinkedAgainst, IsLinkedAgainst}
use Rattle.law_code.proofs.ClosedPackages.{IsClosed, IsClosedClass, class_closed, package_same}
use Rattle.law_code.proofs.LinkAnswers.{closed_next, imports_stand, longer, made}
use Rattle.law_code.proofs.Lists.{IfThere}
use Rattle.law_code.proofs.Numbers.{Stands}
use Rattle.law_code.specs.ReadPackages.{AreRead, HasClassComponent}
use Rattle.law_code.proofs.Good.{AllRead, class_last, none_loaded}
use Rattle.law_code.proofs.Inherits.{Inherits, one_by_one}

-- ---- where both are of one package

-- a class of the package with this number stands after its superclass, where that is of this package too
abbrev Behind : ℕ → List ClassValue → Type 0
Behind number cs = (i : ℕ) (c : ClassValue) → slice_get cs i ≡ Some c → c.is_interface ≡ false → c.superclass / 256 ≡ number → c.superclass % 256 < i

none_behind : (number : ℕ) → Behind number []
none_behind number i c is = absurd (none-some c is)

last_or : {A : Type 0} (xs : List A) (y x : A) (i : ℕ) → slice_get (xs ++ y ∷ []) i ≡ Some x → (slice_get xs i ≡ Some x) ⊎ ((i ≡ length xs) × (y ≡ x))
last_or [] y x zero is = inr (refl, same_Some y x is)
last_or [] y x (suc i) is = absurd (none-some x is)
last_or (z ∷ xs) y x zero is = inl is
last_or (z ∷ xs) y x (suc i) is = elim (last_or xs y x i is) [
  | inl before ↦ inl before
  | inr last ↦ inr (ap suc last.0, last.1)
]

behind_more : (p : Packages) (number : ℕ) (done : List ClassValue) (new : ClassValue) → Inherits p number done new → Behind number done
    → Behind number (done ++ new ∷ [])
behind_more p number done new one behind i c is class here = elim (last_or done new c i is) [
  | inl before ↦ behind i c before class here
  | inr last ↦ subst (λ n. c.superclass % 256 < n) (sym last.0) (subst (λ d. d.is_interface ≡ false → d.superclass / 256 ≡ number
      → d.superclass % 256 < length done) last.1 one.back class here)
]

-- ---- in all packages

superclass_stands : (p : Packages) → IsClosed p → (w : ℕ) (c : ClassValue) → class_in p w ≡ Some c → c.is_interface ≡ false
    → Stands (length p.loaded) (c.superclass / 256)
superclass_stands p closed w c is class = elim (subst (IfThere (IsClosedClass (length p.loaded))) is (class_closed p closed w)).0 [
  | inl interface ↦ absurd (false≢true (sym class ∙ interface))
  | inr stands ↦ stands
]

-- the superclass's word is lower than the class's, or one of the platform's
abbrev StandsBehind : ℕ → ClassValue → Type 0
StandsBehind w c = (c.superclass < w) ⊎ (64 ≤ c.superclass / 256)

abbrev pub AllBehind : Packages → Type 0
AllBehind p = (w : ℕ) (c : ClassValue) → class_in p w ≡ Some c → c.is_interface ≡ false → StandsBehind w c

class_stays : (p : Packages) (q : PackageValue) (w : ℕ) → (w / 256 ≡ next_number p → ⊥) → class_in (with_package p q) w ≡ class_in p w
unfolding class_in
class_stays p q w other = ap (option_and_then (λ r. slice_get r.classes (w % 256))) (package_same p q (w / 256) other)

-- a class of the last package, whose superclass stands
last_behind : (number w : ℕ) (c : ClassValue) → w / 256 ≡ number → Stands number (c.superclass / 256)
    → (c.superclass / 256 ≡ number → c.superclass % 256 < w % 256) → StandsBehind w c
last_behind number w c here (inr high) behind = inr high
last_behind number w c here (inl low) behind = elim (cases_eq (c.superclass / 256) number) [
  | inl same ↦ inl (let less = behind same in omega (arith, same, here, less))
  | inr other ↦ inl (omega (arith, other, here, low))
]

behind_next : (p : Packages) (c : LinkerComponents) (q : PackageValue) → IsClosed p → AllBehind p → HasClassComponent c → IsLinkedAgainst p c q
    → AllBehind (with_package p q)
behind_next p c q closed all component linked w d is class = elim (cases_eq (w / 256) (next_number p)) [
  | inr other ↦ all w d (sym (class_stays p q w other) ∙ is) class
  | inl here ↦
      let m = made p c q linked.2 in
      let classes : q.classes ≡ (with_classes p c m.imports).classes = ap (λ r. r.classes) m.is in
      let behind : Behind (next_number p) (with_classes p c m.imports).classes =
      one_by_one p c m.imports closed linked.0 (imports_stand p c.imports m.imports m.imported) (Behind (next_number p)) (behind_more p (next_number p))
      (none_behind (next_number p)) component.0 component.1 component.2 in
      last_behind (next_number p) w d here (subst (λ n. Stands n (d.superclass / 256)) (longer p q)
      (superclass_stands (with_package p q) (closed_next p c q closed linked) w d is class))
      (behind (w % 256) d (ap (λ l. slice_get l (w % 256)) (sym classes) ∙ sym (class_last p q closed linked.0 w here) ∙ is) class)
]

behind_onto : (cs : List LinkerComponents) (p all : Packages) → IsClosed p → AllBehind p → AllRead cs → AreLinkedAgainst p cs all → AllBehind all
behind_onto [] p all closed behind read linked = subst AllBehind (sym linked) behind
behind_onto (c ∷ cs) p all closed behind read linked =
    behind_onto cs (with_package p linked.0) all (closed_next p c linked.0 closed linked.1) (behind_next p c linked.0 closed behind (read 0 c refl) linked.1)
    (λ i d at. read (suc i) d at) linked.2

no_classes : (p : Packages) → AllBehind (record p { loaded = [] })
no_classes p w c is = absurd (none_loaded p w c is)

pub all_stand_behind : (cs : List LinkerComponents) (p : Packages) → AreRead cs p → AllBehind p
all_stand_behind cs p read = behind_onto cs (record p { loaded = [] }) p tt (no_classes p) read.classes read.linked
