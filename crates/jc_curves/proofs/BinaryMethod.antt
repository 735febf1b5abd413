-- The binary method: a step of it, leading zeros, and the one multiple.
use Rattle.std.proofs.Common.{◌≡◌, ℕ, zero, suc, ◌+◌, ◌-◌, ◌/◌, ◌%◌, ◌^◌, ◌<◌, ◌≤◌, refl, sym, ap, subst, ◌∙◌, arith}
use Rattle.std.proofs.Math.Nat.{pow-suc, pow-zero}
use Rattle.std.proofs.lemmas.Nat.{shr-shr}
use Rattle.jc_numbers.specs.Numbers.{IsBitLength}
use Rattle.jc_curves.specs.Points.{Point, Infinity, At, IsMultiple, IsMultipleByBits, IsSum, IsSumWithBit, IsTheMultiple, IsTheSum}
use Rattle.jc_curves.specs.Jacobian.{AddsPoint, Coordinates, Doubles, IsAtInfinity, StandsFor}
use Rattle.jc_curves.specs.PointValues.{StandsForMultiple, TakesBit}
use Rattle.jc_curves.proofs.Standing.{one_x, one_y, true_false}

-- coordinates stand for one point
pub stands_once : (p : ℕ) (c : Coordinates) (r s : Point) → 1 < p → StandsFor p c r → StandsFor p c s → r ≡ s
stands_once p c Infinity Infinity above left right = refl
stands_once p c Infinity (At x y) above left right = true_false c.infinite left.infinite right.finite
stands_once p c (At x y) Infinity above left right = true_false c.infinite right.infinite left.finite
stands_once p c (At x y) (At u v) above left right = λ i. At (one_x p c x y u v above left right i) (one_y p c x y u v above left right i)

-- ---- a step

zero_to : (p a : ℕ) (old new : Coordinates) (q s r : Point) → Doubles p a old new → StandsFor p old s
    → (d : Point) × IsSum p a s s d × IsSumWithBit p a d 0 q r → StandsFor p new r
zero_to p a old new q s r doubled stands has =
    subst (λ (t : Point). StandsFor p new t) (sym has.2) ((doubled.sum s stands has.0).0 has.1)

zero_from : (p a : ℕ) (old new : Coordinates) (q s r : Point) → Doubles p a old new → StandsFor p old s → StandsFor p new r
    → (d : Point) × IsSum p a s s d × IsSumWithBit p a d 0 q r
zero_from p a old new q s r doubled stands there = (r, (doubled.sum s stands r).1 there, refl)

-- a bit 0 doubles
pub takes_zero : (p a : ℕ) (old new : Coordinates) (q : Point) → Doubles p a old new → TakesBit p a old 0 q new
takes_zero p a old new q doubled = record {
  sum = λ s stands r. (zero_to p a old new q s r doubled stands, zero_from p a old new q s r doubled stands);
  of_some = doubled.of_some;
}

one_to : (p a : ℕ) (old mid new : Coordinates) (q s r : Point) → Doubles p a old mid → AddsPoint p a mid q new → StandsFor p old s
    → (d : Point) × IsSum p a s s d × IsSumWithBit p a d 1 q r → StandsFor p new r
one_to p a old mid new q s r doubled added stands has = (added.sum has.0 ((doubled.sum s stands has.0).0 has.1) r).0 has.2

one_from : (p a : ℕ) (old mid new : Coordinates) (q s r : Point) → Doubles p a old mid → AddsPoint p a mid q new → StandsFor p old s
    → StandsFor p new r → (d : Point) × IsSum p a s s d × IsSumWithBit p a d 1 q r
one_from p a old mid new q s r doubled added stands there =
    let d : (t : Point) × StandsFor p mid t = added.of_some r there in
    (d.0, (doubled.sum s stands d.0).1 d.1, (added.sum d.0 d.1 r).1 there)

one_of : (p a : ℕ) (old mid new : Coordinates) (q r : Point) → Doubles p a old mid → AddsPoint p a mid q new → StandsFor p new r
    → (s : Point) × StandsFor p old s
one_of p a old mid new q r doubled added there =
    let d : (t : Point) × StandsFor p mid t = added.of_some r there in
    doubled.of_some d.0 d.1

-- a bit 1 doubles and adds
pub takes_one : (p a : ℕ) (old mid new : Coordinates) (q : Point) → Doubles p a old mid → AddsPoint p a mid q new → TakesBit p a old 1 q new
takes_one p a old mid new q doubled added = record {
  sum = λ s stands r. (one_to p a old mid new q s r doubled added stands, one_from p a old mid new q s r doubled added stands);
  of_some = λ r there. one_of p a old mid new q r doubled added there;
}

-- no bits are taken at infinity
none_to : (p : ℕ) (c : Coordinates) (r : Point) → IsAtInfinity p c → r ≡ Infinity → StandsFor p c r
none_to p c r at is = subst (λ (s : Point). StandsFor p c s) (sym is) at

pub none_taken : (p a k : ℕ) (q : Point) (c : Coordinates) → 1 < p → IsAtInfinity p c → StandsForMultiple p a k 0 q c
none_taken p a k q c above at = λ r. (none_to p c r at, λ there. stands_once p c r Infinity above there at)

more_to : (p a k m : ℕ) (q : Point) (old new : Coordinates) (r : Point) → StandsForMultiple p a (k / 2) m q old → TakesBit p a old (k % 2) q new
    → IsMultipleByBits p a k (suc m) q r → StandsFor p new r
more_to p a k m q old new r before taken has = (taken.sum has.0 ((before has.0).0 has.2) r).0 (has.1, has.3, has.4)

more_from : (p a k m : ℕ) (q : Point) (old new : Coordinates) (r : Point) → StandsForMultiple p a (k / 2) m q old → TakesBit p a old (k % 2) q new
    → StandsFor p new r → IsMultipleByBits p a k (suc m) q r
more_from p a k m q old new r before taken there =
    let s : (t : Point) × StandsFor p old t = taken.of_some r there in
    let d : (t : Point) × IsSum p a s.0 s.0 t × IsSumWithBit p a t (k % 2) q r = (taken.sum s.0 s.1 r).1 there in
    (s.0, d.0, (before s.0).1 s.1, d.1, d.2)

-- a bit more
pub bit_taken : (p a k m : ℕ) (q : Point) (old new : Coordinates) → StandsForMultiple p a (k / 2) m q old → TakesBit p a old (k % 2) q new
    → StandsForMultiple p a k (suc m) q new
bit_taken p a k m q old new before taken = λ r. (more_to p a k m q old new r before taken, more_from p a k m q old new r before taken)

-- before the first bit of v, after one more, and after the last
pub start_taken : (p a v count : ℕ) (q : Point) (c : Coordinates) → 1 < p → IsAtInfinity p c
    → StandsForMultiple p a (v / 2 ^ count) (count - count) q c
start_taken p a v count q c above at =
    let none : 0 ≡ count - count = omega arith in
    subst (λ (m : ℕ). StandsForMultiple p a (v / 2 ^ count) m q c) none (none_taken p a (v / 2 ^ count) q c above at)

pub next_taken : (p a v count i : ℕ) (q : Point) (old new : Coordinates) (bit : ℕ) → 0 < i → i ≤ count → bit ≡ v / 2 ^ (i - 1) % 2
    → StandsForMultiple p a (v / 2 ^ i) (count - i) q old → TakesBit p a old bit q new
    → StandsForMultiple p a (v / 2 ^ (i - 1)) (count - (i - 1)) q new
next_taken p a v count i q old new bit some within is before taken =
    let k : ℕ = i - 1 in
    let up : i ≡ k + 1 = omega (arith, some) in
    let halved : v / 2 ^ i ≡ v / 2 ^ k / 2 = ap (λ (j : ℕ). v / 2 ^ j) up ∙ sym (shr-shr v k 1) in
    let more : suc (count - i) ≡ count - k = omega (arith, some, within) in
    subst (λ (m : ℕ). StandsForMultiple p a (v / 2 ^ k) m q new) more
    (bit_taken p a (v / 2 ^ k) (count - i) q old new
    (subst (λ (w : ℕ). StandsForMultiple p a w (count - i) q old) halved before)
    (subst (λ (b : ℕ). TakesBit p a old b q new) is taken))

pub all_taken : (p a v count i : ℕ) (q : Point) (c : Coordinates) → i ≡ 0 → StandsForMultiple p a (v / 2 ^ i) (count - i) q c
    → StandsForMultiple p a v count q c
all_taken p a v count i q c none taken =
    let whole : v / 2 ^ i ≡ v = ap (λ (j : ℕ). v / 2 ^ j) none ∙ ap (λ (w : ℕ). v / w) (pow-zero 2) ∙ omega arith in
    let all : count - i ≡ count = omega (arith, none) in
    subst (λ (m : ℕ). StandsForMultiple p a v m q c) all (subst (λ (w : ℕ). StandsForMultiple p a w (count - i) q c) whole taken)

-- ---- leading zeros

infinite_sum : (p a : ℕ) (s d : Point) → s ≡ Infinity → IsSum p a s s d → d ≡ Infinity
infinite_sum p a Infinity d is sum = sum
infinite_sum p a (At x y) d is sum = absurd (cc)

with_zero : (p a k : ℕ) (d q r : Point) → k ≡ 0 → IsSumWithBit p a d (k % 2) q r → r ≡ d
with_zero p a k d q r is sum = subst (λ (b : ℕ). IsSumWithBit p a d (b % 2) q r) is sum

of_zero : (p a k m : ℕ) (q r : Point) → k ≡ 0 → IsMultipleByBits p a k m q r → r ≡ Infinity
of_zero p a k zero q r is has = has
of_zero p a k (suc m) q r is has =
    let half : k / 2 ≡ 0 = omega (arith, is) in
    with_zero p a k has.1 q r is has.4 ∙ infinite_sum p a has.0 has.1 (of_zero p a (k / 2) m q has.0 half has.2) has.3

zero_by : (p a k m : ℕ) (q : Point) → k ≡ 0 → IsMultipleByBits p a k m q Infinity
zero_by p a k zero q is = refl
zero_by p a k (suc m) q is =
    (Infinity, Infinity, zero_by p a (k / 2) m q (omega (arith, is)), refl, subst (λ (b : ℕ). IsSumWithBit p a Infinity (b % 2) q Infinity) (sym is) refl)

half_below : (k m : ℕ) → k < 2 ^ suc m → k / 2 < 2 ^ m
half_below k m below = omega (arith, below, pow-suc 2 m)

-- the number of bits that are taken is free, from as many as the number has
pub by_other_bits : (p a k m n : ℕ) (q r : Point) → k < 2 ^ m → k < 2 ^ n → IsMultipleByBits p a k m q r → IsMultipleByBits p a k n q r
by_other_bits p a k zero n q r low _ has =
    let none : k ≡ 0 = omega (arith, low, pow-zero 2) in
    subst (λ (s : Point). IsMultipleByBits p a k n q s) (sym has) (zero_by p a k n q none)
by_other_bits p a k (suc m) zero q r _ low has = of_zero p a k (suc m) q r (omega (arith, low, pow-zero 2)) has
by_other_bits p a k (suc m) (suc n) q r low below has =
    (has.0, has.1, by_other_bits p a (k / 2) m n q has.0 (half_below k m low) (half_below k n below) has.2, has.3, has.4)

-- ---- the multiple

-- what coordinates of the multiple stand for is the one multiple
pub the_multiple : (p a k m : ℕ) (q r : Point) (c : Coordinates) → 1 < p → IsBitLength k m → StandsForMultiple p a k m q c → StandsFor p c r
    → IsTheMultiple p a k q r
the_multiple p a k m q r c above bits of there = record {
  is = (m, bits.0, (of r).1 there);
  one = λ s has. stands_once p c s r above ((of s).0 (by_other_bits p a k has.0 m q s has.1 bits.0 has.2)) there;
}

-- where coordinates stand for nothing, there is no multiple
pub no_multiple : (p a k m : ℕ) (q : Point) (c : Coordinates) → IsBitLength k m → StandsForMultiple p a k m q c
    → ((r : Point) → StandsFor p c r → ⊥) → (r : Point) → IsMultiple p a k q r → ⊥
no_multiple p a k m q c bits of none r has = none r ((of r).0 (by_other_bits p a k has.0 m q r has.1 bits.0 has.2))

-- ---- the sum

-- what coordinates of a sum stand for is the one sum
pub the_sum : (p a : ℕ) (s q r : Point) (old new : Coordinates) → 1 < p → AddsPoint p a old q new → StandsFor p old s → StandsFor p new r
    → IsTheSum p a s q r
the_sum p a s q r old new above added stands there = record {
  is = (added.sum s stands r).1 there;
  one = λ t has. stands_once p new t r above ((added.sum s stands t).0 has) there;
}

pub no_sum : (p a : ℕ) (s q : Point) (old new : Coordinates) → AddsPoint p a old q new → StandsFor p old s
    → ((r : Point) → StandsFor p new r → ⊥) → (r : Point) → IsSum p a s q r → ⊥
no_sum p a s q old new added stands none r has = none r ((added.sum s stands r).0 has)
