-- Congruences modulo a number, and inverses.
use Rattle.std.proofs.Common.{◌≡◌, ℕ, zero, suc, ◌+◌, ◌*◌, ◌%◌, ◌<◌, refl, sym, ap, ◌∙◌, arith}
use Rattle.std.proofs.lemmas.Nat.{mul-mod}
use Rattle.std.proofs.Math.Nat.{add-mod, add-mul-mod_self_left, mod-eq_of_lt, mod-zero}
use Rattle.jc_numbers.specs.Inverses.{HasInverse}

-- sums and products of congruent numbers
pub sums : (p x x' y y' : ℕ) → x % p ≡ x' % p → y % p ≡ y' % p → (x + y) % p ≡ (x' + y') % p
sums p x x' y y' e f = add-mod x y p ∙ (λ i. (e i + f i) % p) ∙ sym (add-mod x' y' p)

pub products : (p x x' y y' : ℕ) → x % p ≡ x' % p → y % p ≡ y' % p → (x * y) % p ≡ (x' * y') % p
products p x x' y y' e f = mul-mod x y p ∙ (λ i. (e i * f i) % p) ∙ sym (mul-mod x' y' p)

-- equal numbers are congruent
pub equals : (p x y : ℕ) → x ≡ y → x % p ≡ y % p
equals p x y e = ap (λ (t : ℕ). t % p) e

opposite : (x c q : ℕ) → x + c + c * q ≡ x + suc q * c
opposite x c q = grind arith

-- what is added on both sides
pub cancelled : (p x y c : ℕ) → (x + c) % p ≡ (y + c) % p → x % p ≡ y % p
cancelled zero x y c e =
    let same : x + c ≡ y + c = sym (mod-zero (x + c)) ∙ e ∙ mod-zero (y + c) in
    equals zero x y (omega arith)
cancelled (suc q) x y c e =
    sym (equals (suc q) _ _ (opposite x c q) ∙ add-mul-mod_self_left x (suc q) c)
    ∙ sums (suc q) (x + c) (y + c) (c * q) (c * q) e refl
    ∙ equals (suc q) _ _ (opposite y c q) ∙ add-mul-mod_self_left y (suc q) c

-- ---- inverses

scaled : (x u v : ℕ) → x * (u * v) ≡ x * u * v
scaled x u v = grind arith

one_times : (x : ℕ) → x * 1 ≡ x
one_times x = grind arith

taken_out : (p x u v : ℕ) → (u * v) % p ≡ 1 % p → x % p ≡ (x * u * v) % p
taken_out p x u v is =
    equals p _ _ (sym (one_times x)) ∙ products p x x 1 (u * v) refl (sym is) ∙ equals p _ _ (scaled x u v)

-- 1 is a remainder
pub one_below : (p : ℕ) → 1 < p → 1 % p ≡ 1
one_below p above = mod-eq_of_lt above

-- what both sides are multiplied by, where it has an inverse
pub divided : (p x y u : ℕ) → 1 < p → HasInverse p u → (x * u) % p ≡ (y * u) % p → x % p ≡ y % p
divided p x y u above has e =
    let v : ℕ = has.0 in
    let one : (u * v) % p ≡ 1 % p = has.1 ∙ sym (one_below p above) in
    taken_out p x u v one ∙ products p (x * u) (y * u) v v e refl ∙ sym (taken_out p y u v one)

pub inverse_of_same : (p x y : ℕ) → x % p ≡ y % p → HasInverse p x → HasInverse p y
inverse_of_same p x y e has = (has.0, sym (products p x y has.0 has.0 e refl) ∙ has.1)

swapped : (x y u v : ℕ) → x * y * (u * v) ≡ (x * u) * (y * v)
swapped x y u v = grind arith

pub inverse_of_product : (p x y : ℕ) → 1 < p → HasInverse p x → HasInverse p y → HasInverse p (x * y)
inverse_of_product p x y above left right =
    let one : 1 % p ≡ 1 = one_below p above in
    let u : ℕ = left.0 in
    let v : ℕ = right.0 in
    (u * v, equals p _ _ (swapped x y u v) ∙ products p (x * u) 1 (y * v) 1 (left.1 ∙ sym one) (right.1 ∙ sym one) ∙ one)

pub inverse_of_first : (p x y : ℕ) → HasInverse p (x * y) → HasInverse p x
inverse_of_first p x y has = (y * has.0, equals p _ _ (scaled x y has.0) ∙ has.1)

turned : (x y : ℕ) → x * y ≡ y * x
turned x y = grind arith

pub inverse_of_second : (p x y : ℕ) → HasInverse p (x * y) → HasInverse p y
inverse_of_second p x y has = inverse_of_first p y x (inverse_of_same p _ _ (equals p _ _ (turned x y)) has)
