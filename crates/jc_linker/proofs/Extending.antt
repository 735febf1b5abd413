-- Interfaces that extend another one: what their lists, and a table, say of it.
use Rattle.std.proofs.Common.{◌≡◌, ◌∙◌, ◌<◌, ◌==◌, ◌&&◌, ◌||◌, not, ℕ, zero, suc, Bool, true, false, inl, inr, List, [], ◌∷◌, length, get_or, refl, ap, sym}
use Rattle.std.proofs.Common.{arith}
use Rattle.std.specs.Prelude.{nat_lt}
use Rattle.std.specs.List.{list_any}
use Rattle.std.proofs.lemmas.Bool.{and_parts, eqb-true, false≢true, lt-ltb, ltb-true, or_cases, or_left, or_right}
use Rattle.jc_linker.specs.Classes.{AreTold, any_is, extends, extends_within, implements, interfaces_in, is_among, is_deep, is_listed, is_told, lists_some}
use Rattle.jc_linker.specs.Classes.{most_classes, stands_before}
use Rattle.jc_linker.specs.Values.{Packages}

-- ---- lists of which some pass a test

any_same : {A : Type 0} (f g : A → Bool) → ((x : A) → f x ≡ g x) → (xs : List A) → list_any f xs ≡ list_any g xs
any_same f g same [] = refl
any_same f g same (x ∷ xs) = ap (λ b. b || list_any f xs) (same x) ∙ ap (λ b. g x || b) (any_same f g same xs)

any_more : {A : Type 0} (f g : A → Bool) → ((x : A) → f x ≡ true → g x ≡ true) → (xs : List A) → list_any f xs ≡ true → list_any g xs ≡ true
any_more f g more [] e = e
any_more f g more (x ∷ xs) e = elim (or_cases (f x) (list_any f xs) e) [
  | inl here ↦ or_left (g x) (list_any g xs) (more x here)
  | inr rest ↦ or_right (g x) (list_any g xs) (any_more f g more xs rest)
]

neither : (a b : Bool) → (a || b) ≡ false → (a ≡ false) × (b ≡ false)
neither true b e = absurd (false≢true (sym e))
neither false b e = (refl, e)

-- where none passes one test, the others give the same
any_unless : {A : Type 0} (h f g : A → Bool) → ((x : A) → h x ≡ false → f x ≡ g x) → (xs : List A) → list_any h xs ≡ false → list_any f xs ≡ list_any g xs
any_unless h f g same [] none = refl
any_unless h f g same (x ∷ xs) none =
    let two = neither (h x) (list_any h xs) none in
    ap (λ b. b || list_any f xs) (same x two.0) ∙ ap (λ b. g x || b) (any_unless h f g same xs two.1)

or_none : (a b : Bool) → b ≡ false → (a || b) ≡ a
or_none true b e = refl
or_none false b e = e

and_none : (a b : Bool) → b ≡ false → (a && b) ≡ false
and_none true b e = e
and_none false b e = refl

not_false : (b : Bool) → not b ≡ false → b ≡ true
not_false true e = refl
not_false false e = absurd (false≢true (sym e))

no_length : {A : Type 0} (xs : List A) → not (length xs == 0) ≡ false → xs ≡ []
no_length [] e = refl
no_length (x ∷ xs) e = let long : suc (length xs) ≡ 0 = eqb-true (suc (length xs)) 0 (not_false (suc (length xs) == 0) e) in absurd (omega (arith, long))

module _ (p : Packages) (of : ℕ) where
  -- one that is before the interface, and extends the other one
  abbrev before : ℕ → ℕ → ℕ → Bool
  before n interface i = stands_before i interface && extends_within p of n i

  -- ---- longer walks

  same_before : (n m w : ℕ) → ((k : ℕ) → k < w → extends_within p of n k ≡ extends_within p of m k) → (i : ℕ) (b : Bool) → stands_before i w ≡ b
      → before n w i ≡ before m w i
  same_before n m w lower i false is = ap (λ b. b && extends_within p of n i) is ∙ sym (ap (λ b. b && extends_within p of m i) is)
  same_before n m w lower i true is = ap (λ b. stands_before i w && b) (lower i (ltb-true i w (and_parts (nat_lt i w) (nat_lt w most_classes) is).0))

  longer : (n m w : ℕ) → w < n → w < m → extends_within p of n w ≡ extends_within p of m w
  unfolding extends_within
  longer zero m w less more = absurd (omega (arith, less))
  longer (suc n) zero w less more = absurd (omega (arith, more))
  longer (suc n) (suc m) w less more =
      any_same (λ i. i.interface == of || before n w i.interface) (λ i. i.interface == of || before m w i.interface)
      (λ i. ap (λ b. i.interface == of || b) (same_before n m w (λ k low. longer n m k (omega (arith, low, less)) (omega (arith, low, more))) i.interface
      (stands_before i.interface w) refl)) (interfaces_in p w)

  -- ---- by the list alone

  within_listed : (n w : ℕ) → is_listed of (interfaces_in p w) ≡ true → extends_within p of (suc n) w ≡ true
  unfolding extends_within
  within_listed n w e = any_more (λ i. i.interface == of) (λ i. i.interface == of || before n w i.interface)
      (λ i here. or_left (i.interface == of) (before n w i.interface) here) (interfaces_in p w) e

  within_high : (n w : ℕ) → nat_lt w most_classes ≡ false → extends_within p of (suc n) w ≡ is_listed of (interfaces_in p w)
  unfolding extends_within
  within_high n w high = any_same (λ i. i.interface == of || before n w i.interface) (λ i. i.interface == of)
      (λ i. or_none (i.interface == of) (before n w i.interface) (ap (λ b. b && extends_within p of n i.interface)
      (and_none (nat_lt i.interface w) (nat_lt w most_classes) high))) (interfaces_in p w)

  lists_none : (n i : ℕ) → lists_some p i ≡ false → extends_within p of n i ≡ false
  unfolding extends_within
  lists_none zero i none = refl
  lists_none (suc n) i none = ap (list_any (λ j. j.interface == of || before n i j.interface)) (no_length (interfaces_in p i) none)

  within_shallow : (n w : ℕ) → is_deep p w ≡ false → extends_within p of (suc n) w ≡ is_listed of (interfaces_in p w)
  unfolding extends_within
  within_shallow n w shallow =
      any_unless (λ i. nat_lt i.interface w && lists_some p i.interface) (λ i. i.interface == of || before n w i.interface) (λ i. i.interface == of)
      (λ i none. or_none (i.interface == of) (before n w i.interface) (each i.interface none (nat_lt i.interface w) refl)) (interfaces_in p w) shallow
    where
      each : (i : ℕ) → (nat_lt i w && lists_some p i) ≡ false → (b : Bool) → nat_lt i w ≡ b → before n w i ≡ false
      each i none false is = ap (λ b. (b && nat_lt w most_classes) && extends_within p of n i) is
      each i none true is = and_none (stands_before i w) (extends_within p of n i) (lists_none n i (sym (ap (λ b. b && lists_some p i) is) ∙ none))

  -- ---- by a table

  within_told : (table : List Bool) (n w : ℕ) → w < most_classes → ((k : ℕ) → k < w → get_or table k false ≡ extends_within p of n k)
      → list_any (λ i. i.interface == of || is_told table i.interface w) (interfaces_in p w) ≡ extends_within p of (suc n) w
  unfolding extends_within
  within_told table n w low told =
      any_same (λ i. i.interface == of || is_told table i.interface w) (λ i. i.interface == of || before n w i.interface)
      (λ i. ap (λ b. i.interface == of || b) (each i.interface (nat_lt i.interface w) refl)) (interfaces_in p w)
    where
      each : (i : ℕ) (b : Bool) → nat_lt i w ≡ b → is_told table i w ≡ before n w i
      each i false is = ap (λ b. b && get_or table i false) is ∙ sym (ap (λ b. (b && nat_lt w most_classes) && extends_within p of n i) is)
      each i true is =
          ap (λ b. b && get_or table i false) is ∙ told i (ltb-true i w is)
          ∙ sym (ap (λ b. (b && nat_lt w most_classes) && extends_within p of n i) is ∙ ap (λ b. b && extends_within p of n i) (lt-ltb w most_classes low))

-- ---- over as many lists as there can be

pub extends_listed : (p : Packages) (interface of : ℕ) → is_listed of (interfaces_in p interface) ≡ true → extends p interface of ≡ true
extends_listed p interface of e = within_listed p of 8703 interface e

pub extends_high : (p : Packages) (interface of : ℕ) → is_listed of (interfaces_in p interface) ≡ false → nat_lt interface most_classes ≡ false
    → extends p interface of ≡ false
extends_high p interface of none high = within_high p of 8703 interface high ∙ none

pub extends_shallow : (p : Packages) (interface of : ℕ) → is_listed of (interfaces_in p interface) ≡ false → is_deep p interface ≡ false
    → extends p interface of ≡ false
extends_shallow p interface of none shallow = within_shallow p of 8703 interface shallow ∙ none

pub extends_told : (p : Packages) (table : List Bool) (interface of : ℕ) → interface < most_classes → AreTold p interface of table
    → list_any (λ i. i.interface == of || is_told table i.interface interface) (interfaces_in p interface) ≡ extends p interface of
extends_told p table interface of low told =
    within_told p of table 8703 interface low (λ k less. told k less ∙ longer p of most_classes 8703 k (omega (arith, less, low)) (omega (arith, less, low)))

-- ---- classes

pub among_is : (p : Packages) (of : ℕ) (classes : List ℕ) → is_among of classes ≡ true → any_is p of classes ≡ true
unfolding any_is
among_is p of classes e = any_more (λ c. c == of) (λ c. c == of || implements p c of) (λ c same. or_left (c == of) (implements p c of) same) classes e
