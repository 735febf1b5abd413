-- The function that finds an inverse, and differences modulo a number.
use Rattle.std.proofs.Common.{◌≡◌, ◌<◌, ◌+◌, ◌-◌, ◌*◌, ◌%◌, ◌∙◌, ℕ, zero, suc, Bool, true, false, Some, if◌then◌else◌, refl, sym, ap, subst, inl, inr, arith}
use Rattle.std.specs.Prelude.{◌==◌}
use Rattle.std.proofs.lemmas.Bool.{both_ways, cases_lt, eq-eqb, eqb-true}
use Rattle.std.proofs.lemmas.Nat.{mul-mod_second}
use Rattle.std.proofs.lemmas.Option.{none-some, same_Some}
use Rattle.std.proofs.Math.Nat.{add-mul-mod_self_left, mod-eq_of_lt, mod-lt}
use Rattle.jc_numbers.specs.Inverses.{HasInverse, IsInverse}
use Rattle.jc_public_keys.specs.CurveSums.{difference, inverse_below, inverse_of}
use Rattle.jc_curves.proofs.Congruences.{equals}

-- ---- inverses

-- what is found is an inverse
is_if : (n x k y : ℕ) (b : Bool) → ((x * k) % n == 1) ≡ b → (inverse_below n x k ≡ Some y → IsInverse n x y)
    → (if b then Some k else inverse_below n x k) ≡ Some y → IsInverse n x y
is_if n x k y true is later e = subst (λ t. IsInverse n x t) (same_Some k y e) (eqb-true ((x * k) % n) 1 is)
is_if n x k y false is later e = later e

below_is : (n x k y : ℕ) → inverse_below n x k ≡ Some y → IsInverse n x y
below_is n x zero y e = absurd (none-some y e)
below_is n x (suc k) y e = is_if n x k y ((x * k) % n == 1) refl (below_is n x k y) e

pub found_is : (n x y : ℕ) → inverse_of n x ≡ Some y → IsInverse n x y
found_is n x y e = below_is n x n y e

-- and one is found below each that is there
found_if : (n x k y : ℕ) → y < suc k → IsInverse n x y → (b : Bool) → ((x * k) % n == 1) ≡ b
    → (y < k → (z : ℕ) × (inverse_below n x k ≡ Some z)) → (z : ℕ) × (inverse_below n x (suc k) ≡ Some z)
found_if n x k y lt is true e later = (k, ap (λ (t : Bool). if t then Some k else inverse_below n x k) e)
found_if n x k y lt is false e later = elim (cases_lt y k) [
  | inl smaller ↦ let r = later smaller in (r.0, ap (λ (t : Bool). if t then Some k else inverse_below n x k) e ∙ r.1)
  | inr larger ↦
      let same : y ≡ k = omega (arith, lt, larger) in
      absurd (both_ways ((x * k) % n == 1) e (eq-eqb ((x * k) % n) 1 (subst (λ t. (x * t) % n ≡ 1) same is)))
]

below_found : (n x k y : ℕ) → y < k → IsInverse n x y → (z : ℕ) × (inverse_below n x k ≡ Some z)
below_found n x zero y lt is = absurd (omega (arith, lt))
below_found n x (suc k) y lt is = found_if n x k y lt is ((x * k) % n == 1) refl (λ smaller. below_found n x k y smaller is)

pub inverse_found : (n x : ℕ) → 1 < n → HasInverse n x → (z : ℕ) × (inverse_of n x ≡ Some z)
inverse_found n x above (v, is) =
    let some : 0 < n = omega (arith, above) in
    below_found n x n (v % n) (mod-lt v some) (mul-mod_second x v n ∙ is)

-- what is found is below the bound
less_if : (n x k y : ℕ) (b : Bool) → (inverse_below n x k ≡ Some y → y < k) → (if b then Some k else inverse_below n x k) ≡ Some y → y < suc k
less_if n x k y true later e = let same : k ≡ y = same_Some k y e in omega arith
less_if n x k y false later e = let less : y < k = later e in omega arith

below_less : (n x k y : ℕ) → inverse_below n x k ≡ Some y → y < k
below_less n x zero y e = absurd (none-some y e)
below_less n x (suc k) y e = less_if n x k y ((x * k) % n == 1) (below_less n x k y) e

-- a number has one inverse below n
turned : (x y z : ℕ) → y * (x * z) ≡ z * (x * y)
turned x y z = grind arith

times_one : (x : ℕ) → x * 1 ≡ x
times_one x = omega arith

module _ (n x y z : ℕ) (left : IsInverse n x y) (right : IsInverse n x z) where
  half : (u v : ℕ) → IsInverse n x v → (u * (x * v)) % n ≡ (u * 1) % n
  half u v is = sym (mul-mod_second u (x * v) n) ∙ ap (λ (k : ℕ). (u * k) % n) is

  pub one_inverse : y < n → z < n → y ≡ z
  one_inverse y_less z_less =
      sym (ap (λ (k : ℕ). k % n) (times_one y) ∙ mod-eq_of_lt y_less) ∙ sym (half y z right) ∙ ap (λ (k : ℕ). k % n) (turned x y z) ∙ half z y left
      ∙ ap (λ (k : ℕ). k % n) (times_one z) ∙ mod-eq_of_lt z_less

-- so that the inverse below n is the one that is found
pub inverse_is : (n x y : ℕ) → 1 < n → IsInverse n x y → y < n → inverse_of n x ≡ Some y
inverse_is n x y above is less =
    let found = inverse_found n x above (y, is) in
    found.1 ∙ ap Some (one_inverse n x found.0 y (found_is n x found.0 found.1) is (below_less n x n found.0 found.1) less)

-- ---- differences

pulled : (q p x y : ℕ) → q + 1 ≡ p → y + q * x + x ≡ y + p * x
pulled q p x y e = subst (λ s. y + q * x + x ≡ y + s * x) e (grind arith)

-- what is taken away is added again
pub difference_is : (p x y : ℕ) → 1 < p → (difference p y x + x) % p ≡ y % p
difference_is p x y above = equals p _ _ (pulled (p - 1) p x y (omega (arith, above))) ∙ add-mul-mod_self_left y p x
