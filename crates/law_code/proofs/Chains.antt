-- Lineages: which classes they reach, and whose cells hold references.
use Rattle.std.proofs.Common.{◌≡◌, ℕ, zero, suc, ◌<◌, ◌≤◌, ◌==◌, ◌⊎◌, inl, inr, ◌&&◌, ◌||◌, Bool, true, false, Option, Some, None, refl, ap, subst, sym, ◌∙◌}
use Rattle.std.proofs.Common.{arith}
use Rattle.std.proofs.lemmas.Bool.{and_parts, eqb-true, false_from_ne_true, false≢true, or_cases, or_from, or_left}
use Rattle.jc_platform.specs.Platform.{class_by_word}
use Rattle.jc_linker.specs.Classes.{any_is, any_reference, class_in, extends, extends_within, implements, interfaces_in, is_below, lineage_from}
use Rattle.jc_linker.specs.Classes.{most_classes, own_reference, size_of, stands_before, superclass_in}
use Rattle.jc_linker.specs.Resolve.{names_interface}
use Rattle.jc_linker.specs.Values.{Packages}
use Rattle.law_code.proofs.ClosedPackages.{if_more}
use Rattle.law_code.proofs.Lists.{AllOf, IfThere, any_so}

-- a cell belongs to the class itself, of one of the platform also to a superclass, and holds a reference
abbrev pub own : Packages → ℕ → ℕ → Bool
own p w cell = own_reference (class_in p w) (class_by_word p.platform w) cell

-- it has no more cells than an object can have
abbrev pub Fits : Packages → ℕ → Type 0
Fits p w = size_of p w < 65536

-- a class has its superclass's cells first; what else of its cells holds references stands after them
pub record IsOrdered (p : Packages) : Type 0 where
  pub sizes : (w : ℕ) → Fits p w → IfThere (λ s. size_of p s ≤ size_of p w) (superclass_in p w)
  pub within : (w k : ℕ) → own p w k ≡ true → k < size_of p w
  pub behind : (w k : ℕ) → Fits p w → own p w k ≡ true → IfThere (λ s. (size_of p s ≤ k) ⊎ (own p s k ≡ true)) (superclass_in p w)

-- the class is among this many, from another one on upwards
unfoldable pub Reaches : Packages → ℕ → ℕ → Option ℕ → Type 0
Reaches p w zero o = ⊥
Reaches p w (suc n) None = ⊥
Reaches p w (suc n) (Some x) = (x ≡ w) ⊎ Reaches p w n (superclass_in p x)

-- of two classes that are reached, one is reached from the other
pub one_first : (p : Packages) (a b n : ℕ) (o : Option ℕ) → Reaches p a n o → Reaches p b n o
    → ((m : ℕ) × Reaches p b m (Some a)) ⊎ ((m : ℕ) × Reaches p a m (Some b))
unfolding Reaches
one_first p a b zero o first second = absurd first
one_first p a b (suc n) None first second = absurd first
one_first p a b (suc n) (Some x) (inl e) second = inl (suc n, subst (λ y. (y ≡ b) ⊎ Reaches p b n (superclass_in p y)) e second)
one_first p a b (suc n) (Some x) (inr more) (inl e) = inr (suc n, subst (λ y. (y ≡ a) ⊎ Reaches p a n (superclass_in p y)) e (inr more))
one_first p a b (suc n) (Some x) (inr more) (inr rest) = one_first p a b n (superclass_in p x) more rest

-- ---- a class that another one is below is reached

module _ (p : Packages) (listed : (w : ℕ) → AllOf (λ i. names_interface p i.interface ≡ true) (interfaces_in p w)) (of : ℕ)
    (class : names_interface p of ≡ false) where
  no_interface : (w : ℕ) → (w == of) ≡ true → names_interface p w ≡ true → ⊥
  no_interface w same interface = false≢true (sym class ∙ (ap (names_interface p) (sym (eqb-true w of same)) ∙ interface))

  not_extended : (n w : ℕ) → extends_within p of n w ≡ true → ⊥
  unfolding extends_within
  not_extended zero w e = false≢true e
  not_extended (suc n) w e = any_so (λ i. names_interface p i.interface ≡ true) ⊥
      (λ i. i.interface == of || (stands_before i.interface w && extends_within p of n i.interface)) (interfaces_in p w) (listed w)
      (λ i each passes. elim (or_cases (i.interface == of) (stands_before i.interface w && extends_within p of n i.interface) passes) [
        | inl same ↦ no_interface i.interface same each
        | inr more ↦ not_extended n i.interface (and_parts (stands_before i.interface w) (extends_within p of n i.interface) more).1
      ]) e

  not_implemented : (w : ℕ) → implements p w of ≡ true → ⊥
  unfolding implements
  not_implemented w e = any_so (λ i. names_interface p i.interface ≡ true) ⊥ (λ i. i.interface == of || extends p i.interface of) (interfaces_in p w) (listed w)
      (λ i each passes. elim (or_cases (i.interface == of) (extends p i.interface of) passes) [
        | inl same ↦ no_interface i.interface same each
        | inr more ↦ not_extended most_classes i.interface more
      ]) e

  any_reached : (n : ℕ) (o : Option ℕ) → any_is p of (lineage_from p n o) ≡ true → Reaches p of n o
  unfolding any_is lineage_from Reaches
  any_reached zero o e = absurd (false≢true e)
  any_reached (suc n) None e = absurd (false≢true e)
  any_reached (suc n) (Some x) e = elim (or_cases (x == of || implements p x of) (any_is p of (lineage_from p n (superclass_in p x))) e) [
    | inl here ↦ elim (or_cases (x == of) (implements p x of) here) [
      | inl same ↦ inl (eqb-true x of same)
      | inr implemented ↦ absurd (not_implemented x implemented)
    ]
    | inr more ↦ inr (any_reached n (superclass_in p x) more)
  ]

  pub below_reached : (w : ℕ) → is_below p w of ≡ true → Reaches p of most_classes (Some w)
  unfolding is_below
  below_reached w e = any_reached most_classes (Some w) e

-- ---- cells

module _ (p : Packages) (ordered : IsOrdered p) where
  fits_above : (x : ℕ) → Fits p x → IfThere (Fits p) (superclass_in p x)
  fits_above x fits = if_more (λ s. size_of p s ≤ size_of p x) (Fits p) (superclass_in p x) (λ s le. omega (arith, le, fits)) (ordered.sizes x fits)

  through : (n w bound : ℕ) (o : Option ℕ) → Reaches p w n o → IfThere (λ s. size_of p w ≤ size_of p s) o → IfThere (λ s. size_of p s ≤ bound) o
      → size_of p w ≤ bound
  unfolding Reaches
  through zero w bound o reached low high = absurd reached
  through (suc n) w bound None reached low high = absurd reached
  through (suc n) w bound (Some s) reached low high = omega (arith, low, high)

  -- a class that is reached has no more cells
  pub reached_size : (n w : ℕ) (o : Option ℕ) → IfThere (Fits p) o → Reaches p w n o → IfThere (λ x. size_of p w ≤ size_of p x) o
  unfolding Reaches
  reached_size zero w o fits reached = absurd reached
  reached_size (suc n) w None fits reached = tt
  reached_size (suc n) w (Some x) fits (inl e) = let same = ap (size_of p) e in omega (arith, same)
  reached_size (suc n) w (Some x) fits (inr more) = through n w (size_of p x) (superclass_in p x) more
      (reached_size n w (superclass_in p x) (fits_above x fits) more) (ordered.sizes x fits)

  through_own : (n w k : ℕ) (o : Option ℕ) → Reaches p w n o → IfThere (λ s. size_of p w ≤ size_of p s) o
      → IfThere (λ s. (size_of p s ≤ k) ⊎ (own p s k ≡ true)) o → k < size_of p w → any_reference p k (lineage_from p n o) ≡ true
  unfolding any_reference lineage_from Reaches
  through_own zero w k o reached low high less = absurd reached
  through_own (suc n) w k None reached low high less = absurd reached
  through_own (suc n) w k (Some s) reached low high less = elim high [
    | inl le ↦ absurd (omega (arith, low, le, less))
    | inr held ↦ or_left (own p s k) (any_reference p k (lineage_from p n (superclass_in p s))) held
  ]

  -- a cell of a class that is reached is not stated by a class below alone
  own_above : (n w x k : ℕ) → Fits p x → Reaches p w n (superclass_in p x) → k < size_of p w → own p x k ≡ true
      → any_reference p k (lineage_from p n (superclass_in p x)) ≡ true
  own_above n w x k fits reached less e = through_own n w k (superclass_in p x) reached
      (reached_size n w (superclass_in p x) (fits_above x fits) reached) (ordered.behind x k fits e) less

  told_above : (a b : Bool) → (a ≡ true → b ≡ true) → (a || b) ≡ b
  told_above true b above = sym (above refl)
  told_above false b above = refl

  -- a cell of a class that is reached holds a reference where one from that class on upwards says so
  pub cell_of_reached : (n w k : ℕ) (o : Option ℕ) → IfThere (Fits p) o → Reaches p w n o → k < size_of p w
      → (m : ℕ) × (any_reference p k (lineage_from p n o) ≡ (own p w k || any_reference p k (lineage_from p m (superclass_in p w))))
  unfolding any_reference lineage_from Reaches
  cell_of_reached zero w k o fits reached less = absurd reached
  cell_of_reached (suc n) w k None fits reached less = absurd reached
  cell_of_reached (suc n) w k (Some x) fits (inl e) less = (n, ap (λ y. own p y k || any_reference p k (lineage_from p n (superclass_in p y))) e)
  cell_of_reached (suc n) w k (Some x) fits (inr more) less =
      let rest = cell_of_reached n w k (superclass_in p x) (fits_above x fits) more less in
      (rest.0, told_above (own p x k) (any_reference p k (lineage_from p n (superclass_in p x))) (own_above n w x k fits more less) ∙ rest.1)

  -- a cell after all those of a class is none of it
  pub none_behind : (n k : ℕ) (o : Option ℕ) → IfThere (Fits p) o → IfThere (λ x. size_of p x ≤ k) o → any_reference p k (lineage_from p n o) ≡ false
  unfolding any_reference lineage_from
  none_behind zero k o fits past = refl
  none_behind (suc n) k None fits past = refl
  none_behind (suc n) k (Some x) fits past =
      or_from (own p x k) (any_reference p k (lineage_from p n (superclass_in p x)))
      (false_from_ne_true (own p x k) (λ e. let less = ordered.within x k e in absurd (omega (arith, less, past))))
      (none_behind n k (superclass_in p x) (fits_above x fits) (if_more (λ s. size_of p s ≤ size_of p x) (λ s. size_of p s ≤ k) (superclass_in p x)
      (λ s le. omega (arith, le, past)) (ordered.sizes x fits)))
