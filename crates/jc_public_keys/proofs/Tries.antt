-- The first of all tries, as a loop finds it.
use Rattle.std.proofs.Common.{◌≡◌, ◌<◌, ◌≤◌, ◌+◌, ◌-◌, ◌∙◌, ℕ, zero, suc, Option, Some, None, refl, sym, ap, subst, inl, inr, arith}
use Rattle.std.proofs.lemmas.Bool.{cases_lt}
use Rattle.std.proofs.lemmas.Option.{none-some}
use Rattle.jc_public_keys.specs.RandomNumbers.{first_of, or_next}

one_left : (m t : ℕ) → t < m → m - t ≡ suc (m - (t + 1))
one_left m t lt = omega (arith, lt)

none_left : (m t : ℕ) → m < t + 1 → m - t ≡ 0
none_left m t lt = omega (arith, lt)

module _ {A : Type 0} (f : ℕ → Option A) (m t : ℕ) where
  opened : t < m → first_of f (m - t) t ≡ or_next (f t) (first_of f (m - (t + 1)) (t + 1))
  unfolding first_of
  opened lt = ap (λ (n : ℕ). first_of f n t) (one_left m t lt)

  -- a number that is of no use is left out
  pub next_try : t < m → None ≡ f t → first_of f (m - t) t ≡ first_of f (m - (t + 1)) (t + 1)
  next_try lt none = opened lt ∙ ap (λ (o : Option A). or_next o (first_of f (m - (t + 1)) (t + 1))) (sym none)

  pub found_try : (v : A) → t < m → Some v ≡ f t → first_of f (m - t) t ≡ Some v
  found_try v lt found = opened lt ∙ ap (λ (o : Option A). or_next o (first_of f (m - (t + 1)) (t + 1))) (sym found)

  pub no_try : m < t + 1 → first_of f (m - t) t ≡ None
  unfolding first_of
  no_try lt = ap (λ (n : ℕ). first_of f n t) (none_left m t lt)

-- ---- the first among numbers

-- the first is this value, at this place
pub record IsFirstOf {A : Type 0} (f : ℕ → Option A) (m t : ℕ) (v : A) : Type 0 where
  pub place : ℕ
  pub low : t ≤ place
  pub within : place < t + m
  pub here : f place ≡ Some v
  pub before : (k : ℕ) → t ≤ k → k < place → f k ≡ None

module _ {A : Type 0} (f : ℕ → Option A) where
  passed : (m t : ℕ) → f t ≡ None → first_of f (suc m) t ≡ first_of f m (t + 1)
  unfolding first_of
  passed m t none = ap (λ (o : Option A). or_next o (first_of f m (t + 1))) none

  taken : (m t : ℕ) (v : A) → f t ≡ Some v → first_of f (suc m) t ≡ Some v
  unfolding first_of
  taken m t v here = ap (λ (o : Option A). or_next o (first_of f m (t + 1))) here

  -- it is found
  pub first_found : (m t i : ℕ) (v : A) → t ≤ i → i < t + m → f i ≡ Some v → ((k : ℕ) → t ≤ k → k < i → f k ≡ None) → first_of f m t ≡ Some v
  first_found zero t i v low within here before = absurd (omega (arith, low, within))
  first_found (suc m) t i v low within here before = elim (cases_lt t i) as (λ _. first_of f (suc m) t ≡ Some v) [
    | inl less ↦
        passed m t (before t (omega arith) less)
        ∙ first_found m (t + 1) i v (omega (arith, less)) (omega (arith, within)) here (λ k from below. before k (omega (arith, from)) below)
    | inr more ↦ taken m t v (subst (λ (k : ℕ). f k ≡ Some v) (omega (arith, low, more)) here)
  ]

  after_none : (m t : ℕ) (v : A) → f t ≡ None → IsFirstOf f m (t + 1) v → IsFirstOf f (suc m) t v
  after_none m t v none first = record {
    place = first.place;
    low = omega (arith, first.low);
    within = omega (arith, first.within);
    here = first.here;
    before = λ k from below. elim (cases_lt t k) as (λ _. f k ≡ None) [
      | inl less ↦ first.before k (omega (arith, less)) below
      | inr more ↦ subst (λ (j : ℕ). f j ≡ None) (omega (arith, from, more)) none
    ];
  }

  by_first : (m t : ℕ) (v : A) (o : Option A) → f t ≡ o → or_next o (first_of f m (t + 1)) ≡ Some v
      → (first_of f m (t + 1) ≡ Some v → IsFirstOf f m (t + 1) v) → IsFirstOf f (suc m) t v
  by_first m t v None is e later = after_none m t v is (later e)
  by_first m t v (Some w) is e later = record {
    place = t;
    low = omega arith;
    within = omega arith;
    here = is ∙ e;
    before = λ k from below. absurd (omega (arith, from, below));
  }

  -- what is found is the first
  pub first_is : (m t : ℕ) (v : A) → first_of f m t ≡ Some v → IsFirstOf f m t v
  unfolding first_of
  first_is zero t v e = absurd (none-some v e)
  first_is (suc m) t v e = by_first m t v (f t) refl e (first_is m (t + 1) v)
