-- Curves: fields, points on them, and points as bytes.
use Rattle.std.proofs.Common.{◌≡◌, ℕ, ◌+◌, ◌-◌, ◌*◌, ◌%◌, ◌^◌, ◌<◌, ◌≤◌, List, Option, Some, None, MatchOption, length, refl, sym, ◌∙◌, arith}
use Rattle.std.proofs.Math.Nat.{pow-le-pow_right, zero-mod}
use Rattle.jc_numbers.specs.Moduli.{IsModulus}
use Rattle.jc_numbers.specs.Numbers.{IsBitLength, value}
use Rattle.jc_curves.specs.Curves.{IsFieldNumber, IsOrder}
use Rattle.jc_curves.proofs.Congruences.{sums, products, equals, cancelled}

-- a number of fewer than three bits is at most 3, and one of three or more is above it
pub small_field : (v bits : ℕ) → IsBitLength v bits → bits < 3 → IsFieldNumber v → ⊥
small_field v bits counted few field =
    let most : 2 ^ bits ≤ 2 ^ 2 = pow-le-pow_right {n = 2} (omega arith) {i = bits} {j = 2} (omega (arith, few)) in
    omega (arith, most, counted.0, field.1)

above_three : (v bits : ℕ) → IsBitLength v bits → 3 ≤ bits → 3 < v
above_three v bits counted many =
    let least : 2 ^ 2 ≤ 2 ^ (bits - 1) = pow-le-pow_right {n = 2} (omega arith) {i = 2} {j = bits - 1} (omega (arith, many)) in
    omega (arith, least, counted.1 (omega (arith, many)))

pub field_law : (v bits : ℕ) (r : Option (List ℕ)) → IsBitLength v bits → 3 ≤ bits
    → MatchOption r (¬ (IsOrder v)) (λ m. IsModulus m × (value m ≡ v) × (length m ≤ 17))
    → MatchOption r (¬ (IsFieldNumber v)) (λ m. IsModulus m × (value m ≡ v) × (length m ≤ 17) × (3 < value m))
field_law v bits None counted many none = λ field. none (field.0, omega (arith, field.1))
field_law v bits (Some m) counted many is = (is.0, is.1, is.2, omega (arith, is.1, above_three v bits counted many))

cubic : (x a b : ℕ) → (x * x + a) * x + b ≡ x * x * x + a * x + b
cubic x a b = grind arith

-- y² - (x³ + a x + b)
pub cubic_law : (p a b x square inner outer c : ℕ) → square % p ≡ (x * x) % p → inner % p ≡ (square + a) % p → outer % p ≡ (inner * x) % p
    → c % p ≡ (outer + b) % p → c % p ≡ (x * x * x + a * x + b) % p
cubic_law p a b x square inner outer c is_square is_inner is_outer is =
    is ∙ sums p outer ((x * x + a) * x) b b
    (is_outer ∙ products p inner (x * x + a) x x (is_inner ∙ sums p square (x * x) a a is_square refl) refl) refl
    ∙ equals p _ _ (cubic x a b)

plain : (y : ℕ) → y ≡ 0 + y
plain y = omega arith

pub zero_difference : (p d c y : ℕ) → (d + c) % p ≡ y % p → d % p ≡ 0 → y % p ≡ c % p
zero_difference p d c y is none = sym is ∙ sums p d 0 c c (none ∙ sym (zero-mod p)) refl ∙ equals p _ _ (sym (plain c))

pub same_difference : (p d c y : ℕ) → (d + c) % p ≡ y % p → y % p ≡ c % p → d % p ≡ 0
same_difference p d c y is same = cancelled p d 0 c (is ∙ same ∙ equals p _ _ (plain c)) ∙ zero-mod p
