-- The function that multiplies a point gives its multiple, where it has one.
use Rattle.std.proofs.Common.{◌≡◌, ◌<◌, ◌≤◌, ◌+◌, ◌/◌, ◌%◌, ◌^◌, ◌∙◌, ℕ, zero, suc, Option, Some, None, refl, sym, ap, subst, arith}
use Rattle.std.specs.Prelude.{option_and_then}
use Rattle.std.proofs.lemmas.Option.{none-some, same_Some}
use Rattle.std.proofs.Math.Nat.{pow-le-pow_right}
use Rattle.jc_public_keys.specs.CurveSums.{multiple_by_bits, multiple_of, step_of, sum_of, sum_with_bit}
use Rattle.jc_curves.specs.Points.{Infinity, IsMultiple, IsMultipleByBits, IsSumWithBit, Point}
use Rattle.jc_public_keys.proofs.SumsFound.{sum_back, sum_found}

then_found : {A B : Type 0} (f : A → Option B) (o : Option A) (a : A) (b : B) → o ≡ Some a → f a ≡ Some b → option_and_then f o ≡ Some b
then_found f o a b first second = ap (option_and_then f) first ∙ second

was_then : {A B : Type 0} (f : A → Option B) (o : Option A) (b : B) → option_and_then f o ≡ Some b → (a : A) × (o ≡ Some a) × (f a ≡ Some b)
was_then f None b e = absurd (none-some b e)
was_then f (Some a) b e = (a, refl, e)

module _ (p : ℕ) (above : 1 < p) (a : ℕ) where
  bit_found : (d : Point) (bit : ℕ) (q r : Point) → IsSumWithBit p a d bit q r → sum_with_bit p a d bit q ≡ Some r
  bit_found d zero q r is = ap Some (sym is)
  bit_found d (suc bit) q r is = sum_found p above a d q r is

  bit_back : (d : Point) (bit : ℕ) (q r : Point) → sum_with_bit p a d bit q ≡ Some r → IsSumWithBit p a d bit q r
  bit_back d zero q r e = sym (same_Some d r e)
  bit_back d (suc bit) q r e = sum_back p above a d q r e

  -- by as many bits
  bits_found : (m k : ℕ) (q r : Point) → IsMultipleByBits p a k m q r → multiple_by_bits p a k m q ≡ Some r
  bits_found zero k q r is = ap Some (sym is)
  bits_found (suc m) k q r (s, d, rest, doubled, last) =
      then_found (step_of p a (k % 2) q) (multiple_by_bits p a (k / 2) m q) s r (bits_found m (k / 2) q s rest)
      (then_found (λ t. sum_with_bit p a t (k % 2) q) (sum_of p a s s) d r (sum_found p above a s s d doubled) (bit_found d (k % 2) q r last))

  bits_back : (m k : ℕ) (q r : Point) → multiple_by_bits p a k m q ≡ Some r → IsMultipleByBits p a k m q r
  bits_back zero k q r e = sym (same_Some Infinity r e)
  bits_back (suc m) k q r e =
      let first = was_then (step_of p a (k % 2) q) (multiple_by_bits p a (k / 2) m q) r e in
      let second = was_then (λ t. sum_with_bit p a t (k % 2) q) (sum_of p a first.0 first.0) r first.2 in
      (first.0, second.0, bits_back m (k / 2) q first.0 first.1, sum_back p above a first.0 first.0 second.0 second.1, bit_back second.0 (k % 2) q r second.2)

  -- ---- a bit more, which is 0

  halved : (k m : ℕ) → k < 2 ^ suc m → k / 2 < 2 ^ m
  halved k m lt = omega (arith, lt)

  nothing : (k : ℕ) → k < 2 ^ 0 → k ≡ 0
  nothing k lt = omega (arith, lt)

  one_more : (m k : ℕ) (q : Point) → k < 2 ^ m → multiple_by_bits p a k (suc m) q ≡ multiple_by_bits p a k m q
  one_more zero k q lt = subst (λ n. multiple_by_bits p a n 1 q ≡ Some Infinity) (sym (nothing k lt)) refl
  one_more (suc m) k q lt = ap (option_and_then (step_of p a (k % 2) q)) (one_more m (k / 2) q (halved k m lt))

  -- as many more as one likes
  wider : (n m k : ℕ) → k < 2 ^ m → k < 2 ^ (n + m)
  wider n m k lt = let le : 2 ^ m ≤ 2 ^ (n + m) = pow-le-pow_right (omega arith) (omega arith) in omega (arith, lt, le)

  none_more : (m : ℕ) → 0 + m ≡ m
  none_more m = omega arith

  next_more : (n m : ℕ) → suc n + m ≡ suc (n + m)
  next_more n m = omega arith

  turned : (n m : ℕ) → n + m ≡ m + n
  turned n m = omega arith

  more : (n m k : ℕ) (q : Point) → k < 2 ^ m → multiple_by_bits p a k (n + m) q ≡ multiple_by_bits p a k m q
  more zero m k q lt = ap (λ (t : ℕ). multiple_by_bits p a k t q) (none_more m)
  more (suc n) m k q lt = ap (λ (t : ℕ). multiple_by_bits p a k t q) (next_more n m) ∙ one_more (n + m) k q (wider n m k lt) ∙ more n m k q lt

  -- a number is below the power of 2 with it as exponent
  below_power : (k : ℕ) → k < 2 ^ k
  below_power zero = omega arith
  below_power (suc k) = grind (arith, below_power k)

  -- any two numbers of bits that are enough give the same
  same_bits : (m n k : ℕ) (q : Point) → k < 2 ^ m → k < 2 ^ n → multiple_by_bits p a k m q ≡ multiple_by_bits p a k n q
  same_bits m n k q less small = sym (more n m k q less) ∙ ap (λ (t : ℕ). multiple_by_bits p a k t q) (turned n m) ∙ more m n k q small

  -- the multiple is found
  pub multiple_found : (k : ℕ) (q r : Point) → IsMultiple p a k q r → multiple_of p a k q ≡ Some r
  multiple_found k q r (m, lt, is) = same_bits k m k q (below_power k) lt ∙ bits_found m k q r is

  -- what is found is the multiple
  pub multiple_back : (k : ℕ) (q r : Point) → multiple_of p a k q ≡ Some r → IsMultiple p a k q r
  multiple_back k q r e = (k, below_power k, bits_back k k q r e)
