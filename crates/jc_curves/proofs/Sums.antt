-- What the steps in Jacobian coordinates make of the points that they stand for.
use Rattle.std.proofs.Common.{◌≡◌, ◌↔◌, ℕ, ◌+◌, ◌-◌, ◌*◌, ◌%◌, ◌<◌, true, false, refl, sym, ap, subst, ◌∙◌, inl, inr, arith}
use Rattle.std.proofs.Math.Nat.{mod-eq_of_lt, zero-mod, add-mod_right}
use Rattle.std.proofs.lemmas.Bool.{cases_lt}
use Rattle.jc_numbers.specs.Inverses.{HasInverse}
use Rattle.jc_curves.specs.Points.{Point, Infinity, At, IsChord, IsSlope, IsSum, IsTangent, IsThird}
use Rattle.jc_curves.specs.Jacobian.{AddsPoint, AreDifferences, Coordinates, Doubles, IsAdded, IsAt, IsAtInfinity, IsDoubled, IsMadeInfinite, IsPlaced, StandsFor}
use Rattle.jc_curves.proofs.Congruences.{sums, products, equals, cancelled, divided, inverse_of_same}
use Rattle.jc_curves.proofs.Thirds.{third_exists}
use Rattle.jc_curves.proofs.Standing.{true_false, cube_inverse, square_inverse, same_below, one_x, one_y, point_at, zero_has_none, modulus_has_none}
use Rattle.jc_curves.proofs.Doublings.{doubled_at, old_z_has, tangent_exists, twice_y_has}
use Rattle.jc_curves.proofs.Additions.{added_at, added_z_has, chord_exists, difference_has, placed_at}

-- a point that coordinates stand for is the one that they stand for
same_point : (p : ℕ) (c : Coordinates) (x y x' y' : ℕ) → 1 < p → IsAt p c x y → IsAt p c x' y' → IsAt p c x y → At x y ≡ At x' y'
same_point p c x y x' y' above at other again = λ i. At (one_x p c x y x' y' above at other i) (one_y p c x y x' y' above at other i)

no_chord : {X : Type 0} (p x y y' l : ℕ) → IsChord p x y x y' l → X
no_chord p x y y' l chord = modulus_has_none p (x + p - x) (omega arith) chord.invertible

infinity_at : {X : Type 0} (x y : ℕ) → Infinity ≡ At x y → X
infinity_at x y e = absurd (cc)

finite_infinite : {X : Type 0} (c : Coordinates) → c.infinite ≡ false → c.infinite ≡ true → X
finite_infinite c finite infinite = true_false c.infinite infinite finite

-- ---- doublings

halved : (p y : ℕ) → 1 < p → p % 2 ≡ 1 → y < p → (y + y) % p ≡ 0 → y ≡ 0
halved p y above odd below is =
    elim (cases_lt (y + y) p) [
      | inl less ↦ omega (arith, sym (mod-eq_of_lt less) ∙ is)
      | inr more ↦
          let rest : ℕ = y + y - p in
          let split : y + y ≡ rest + p = omega (arith, more) in
          let low : rest < p = omega (arith, below, more) in
          let none : rest ≡ 0 = sym (mod-eq_of_lt low) ∙ sym (add-mod_right rest p) ∙ equals p _ _ (sym split) ∙ is in
          absurd (omega (arith, split, none, odd))
    ]

plain : (y : ℕ) → y ≡ 0 + y
plain y = omega arith

nothing_times : (q : ℕ) → 0 * q ≡ 0
nothing_times q = grind arith

y_of_zero : (p : ℕ) (c : Coordinates) (x y : ℕ) → IsAt p c x y → y ≡ 0 → c.y % p ≡ 0
y_of_zero p c x y at is =
    at.y_is ∙ equals p _ _ (ap (λ (k : ℕ). k * (c.z * c.z * c.z)) is ∙ nothing_times (c.z * c.z * c.z)) ∙ zero-mod p

zero_of_y : (p : ℕ) (c : Coordinates) (x y : ℕ) → 1 < p → IsAt p c x y → c.y % p ≡ 0 → y ≡ 0
zero_of_y p c x y above at is =
    let q : ℕ = c.z * c.z * c.z in
    same_below p y 0 at.y_below (omega (arith, above))
    (divided p y 0 q above (cube_inverse p c.z above at.invertible) (sym at.y_is ∙ is ∙ sym (equals p _ _ (nothing_times q) ∙ zero-mod p)))

doubled_to : (p a : ℕ) (old new : Coordinates) (x y : ℕ) → 1 < p → p % 2 ≡ 1 → (old.y % p ≡ 0 → ⊥) → IsDoubled p a old new → IsAt p old x y
    → (r : Point) → IsSum p a (At x y) (At x y) r → StandsFor p new r
doubled_to p a old new x y above odd some doubled at Infinity sum =
    absurd (some (y_of_zero p old x y at (halved p y above odd at.y_below sum.1)))
doubled_to p a old new x y above odd some doubled at (At x3 y3) sum =
    elim sum.1 [
      | inl chord ↦ no_chord p x y y sum.0 chord
      | inr tangent ↦ doubled_at p a old new x y sum.0 x3 y3 above at doubled tangent.2 sum.2
    ]

doubled_from : (p a : ℕ) (old new : Coordinates) (x y : ℕ) → 1 < p → IsDoubled p a old new → IsAt p old x y
    → (r : Point) → StandsFor p new r → IsSum p a (At x y) (At x y) r
doubled_from p a old new x y above doubled at Infinity stands = finite_infinite new doubled.finite stands.infinite
doubled_from p a old new x y above doubled at (At x3 y3) stands =
    let tangent : (l : ℕ) × IsTangent p a x y l =
    tangent_exists p a x y (mod-eq_of_lt above) (twice_y_has p a old new x y at doubled stands.invertible) in
    let l : ℕ = tangent.0 in
    let third : (u : ℕ) × (v : ℕ) × IsThird p x y x l u v = third_exists p x y x l (omega (arith, above)) in
    let other : IsAt p new third.0 third.1 = doubled_at p a old new x y l third.0 third.1 above at doubled tangent.1 third.2 in (
      l,
      inr (refl, refl, tangent.1),
      subst (λ (u : ℕ). IsThird p x y x l u y3) (one_x p new third.0 third.1 x3 y3 above other stands)
          (subst (λ (v : ℕ). IsThird p x y x l third.0 v) (one_y p new third.0 third.1 x3 y3 above other stands) third.2),
    )

doubled_of : (p a : ℕ) (old new : Coordinates) → 1 < p → old.infinite ≡ false → IsDoubled p a old new
    → (r : Point) → StandsFor p new r → (s : Point) × StandsFor p old s
doubled_of p a old new above finite doubled Infinity stands = finite_infinite new doubled.finite stands.infinite
doubled_of p a old new above finite doubled (At x y) stands = point_at p old above finite (old_z_has p a old new doubled stands.invertible)

doubled_sum : (p a : ℕ) (old new : Coordinates) → 1 < p → p % 2 ≡ 1 → old.infinite ≡ false → (old.y % p ≡ 0 → ⊥) → IsDoubled p a old new
    → (s : Point) → StandsFor p old s → (r : Point) → IsSum p a s s r ↔ StandsFor p new r
doubled_sum p a old new above odd finite some doubled Infinity stands r = finite_infinite old finite stands.infinite
doubled_sum p a old new above odd finite some doubled (At x y) stands r =
    (doubled_to p a old new x y above odd some doubled stands r, doubled_from p a old new x y above doubled stands r)

-- the formulas double
pub doubles : (p a : ℕ) (old new : Coordinates) → 1 < p → p % 2 ≡ 1 → old.infinite ≡ false → (old.y % p ≡ 0 → ⊥) → IsDoubled p a old new
    → Doubles p a old new
doubles p a old new above odd finite some doubled =
    record { sum = doubled_sum p a old new above odd finite some doubled; of_some = doubled_of p a old new above finite doubled }

-- ---- the point at infinity

infinite_again : (p : ℕ) (old new : Coordinates) → IsMadeInfinite old new → HasInverse p old.z → IsAtInfinity p new
infinite_again p old new made has =
    record { infinite = made.infinite; invertible = inverse_of_same p old.z new.z (equals p _ _ (sym made.z)) has }

infinite_before : (p : ℕ) (old new : Coordinates) → IsMadeInfinite old new → IsAtInfinity p new → HasInverse p old.z
infinite_before p old new made stands = inverse_of_same p new.z old.z (equals p _ _ made.z) stands.invertible

infinity_to : (p : ℕ) (old new : Coordinates) → IsMadeInfinite old new → HasInverse p old.z → (r : Point) → r ≡ Infinity → StandsFor p new r
infinity_to p old new made has Infinity is = infinite_again p old new made has
infinity_to p old new made has (At x y) is = infinity_at x y (sym is)

infinity_from : (p : ℕ) (old new : Coordinates) → IsMadeInfinite old new → (r : Point) → StandsFor p new r → r ≡ Infinity
infinity_from p old new made Infinity stands = refl
infinity_from p old new made (At x y) stands = finite_infinite new stands.finite made.infinite

infinity_doubled_sum : (p a : ℕ) (old new : Coordinates) → old.infinite ≡ true → IsMadeInfinite old new
    → (s : Point) → StandsFor p old s → (r : Point) → IsSum p a s s r ↔ StandsFor p new r
infinity_doubled_sum p a old new infinite made Infinity stands r =
    (infinity_to p old new made stands.invertible r, infinity_from p old new made r)
infinity_doubled_sum p a old new infinite made (At x y) stands r = finite_infinite old stands.finite infinite

infinity_doubled_of : (p : ℕ) (old new : Coordinates) → old.infinite ≡ true → IsMadeInfinite old new
    → (r : Point) → StandsFor p new r → (s : Point) × StandsFor p old s
infinity_doubled_of p old new infinite made Infinity stands =
    (Infinity, record { infinite = infinite; invertible = infinite_before p old new made stands })
infinity_doubled_of p old new infinite made (At x y) stands = finite_infinite new stands.finite made.infinite

-- twice the point at infinity is itself
pub infinity_doubles : (p a : ℕ) (old new : Coordinates) → old.infinite ≡ true → IsMadeInfinite old new → Doubles p a old new
infinity_doubles p a old new infinite made =
    record { sum = infinity_doubled_sum p a old new infinite made; of_some = infinity_doubled_of p old new infinite made }

opposite_to : (p a : ℕ) (old new : Coordinates) (x y x2 y2 : ℕ) → IsMadeInfinite old new → HasInverse p old.z → x ≡ x2
    → ((l : ℕ) → IsSlope p a x y x2 y2 l → ⊥)
    → (r : Point) → IsSum p a (At x y) (At x2 y2) r → StandsFor p new r
opposite_to p a old new x y x2 y2 made has same none Infinity sum = infinite_again p old new made has
opposite_to p a old new x y x2 y2 made has same none (At x3 y3) sum = absurd (none sum.0 sum.1)

opposite_from : (p a : ℕ) (old new : Coordinates) (x y x2 y2 : ℕ) → IsMadeInfinite old new → x ≡ x2 → (y + y2) % p ≡ 0
    → (r : Point) → StandsFor p new r → IsSum p a (At x y) (At x2 y2) r
opposite_from p a old new x y x2 y2 made same opposite Infinity stands = (same, opposite)
opposite_from p a old new x y x2 y2 made same opposite (At x3 y3) stands = finite_infinite new stands.finite made.infinite

opposite_of : (p : ℕ) (old new : Coordinates) → 1 < p → old.infinite ≡ false → IsMadeInfinite old new
    → (r : Point) → StandsFor p new r → (s : Point) × StandsFor p old s
opposite_of p old new above finite made Infinity stands = point_at p old above finite (infinite_before p old new made stands)
opposite_of p old new above finite made (At x y) stands = finite_infinite new stands.finite made.infinite

no_slope_of_zero : (p a x y : ℕ) → y ≡ 0 → (l : ℕ) → IsSlope p a x y x y l → ⊥
no_slope_of_zero p a x y is l slope =
    elim slope [
      | inl chord ↦ no_chord p x y y l chord
      | inr tangent ↦ zero_has_none p (2 * y) (omega (arith, is)) tangent.2.invertible
    ]

zero_doubled_sum : (p a : ℕ) (old new : Coordinates) → 1 < p → old.infinite ≡ false → old.y % p ≡ 0 → IsMadeInfinite old new
    → (s : Point) → StandsFor p old s → (r : Point) → IsSum p a s s r ↔ StandsFor p new r
zero_doubled_sum p a old new above finite none made Infinity stands r = finite_infinite old finite stands.infinite
zero_doubled_sum p a old new above finite none made (At x y) stands r =
    let zero_y : y ≡ 0 = zero_of_y p old x y above stands none in
    let sum_zero : (y + y) % p ≡ 0 = equals p (y + y) 0 (omega (arith, zero_y)) ∙ zero-mod p in (
      opposite_to p a old new x y x y made stands.invertible refl (no_slope_of_zero p a x y zero_y) r,
      opposite_from p a old new x y x y made refl sum_zero r,
    )

-- twice a point of which y is 0 is the point at infinity
pub zero_doubles : (p a : ℕ) (old new : Coordinates) → 1 < p → old.infinite ≡ false → old.y % p ≡ 0 → IsMadeInfinite old new → Doubles p a old new
zero_doubles p a old new above finite none made =
    record { sum = zero_doubled_sum p a old new above finite none made; of_some = opposite_of p old new above finite made }

-- ---- additions

placed_to : (p : ℕ) (new : Coordinates) (x y : ℕ) → IsAt p new x y → (r : Point) → r ≡ At x y → StandsFor p new r
placed_to p new x y at r is = subst (λ (s : Point). StandsFor p new s) (sym is) at

placed_from : (p : ℕ) (new : Coordinates) (x y : ℕ) → 1 < p → IsAt p new x y → (r : Point) → StandsFor p new r → r ≡ At x y
placed_from p new x y above at Infinity stands = finite_infinite new at.finite stands.infinite
placed_from p new x y above at (At u v) stands = same_point p new u v x y above stands at stands

placed_sum : (p a : ℕ) (old new : Coordinates) (x y : ℕ) → 1 < p → x < p → y < p → old.infinite ≡ true → IsPlaced p old.z x y new
    → (s : Point) → StandsFor p old s → (r : Point) → IsSum p a s (At x y) r ↔ StandsFor p new r
placed_sum p a old new x y above low_x low_y infinite placed Infinity stands r =
    let at : IsAt p new x y = placed_at p old new x y low_x low_y placed stands.invertible in
    (placed_to p new x y at r, placed_from p new x y above at r)
placed_sum p a old new x y above low_x low_y infinite placed (At u v) stands r = finite_infinite old stands.finite infinite

placed_of : (p : ℕ) (old new : Coordinates) (x y : ℕ) → old.infinite ≡ true → IsPlaced p old.z x y new
    → (r : Point) → StandsFor p new r → (s : Point) × StandsFor p old s
placed_of p old new x y infinite placed Infinity stands = finite_infinite new placed.finite stands.infinite
placed_of p old new x y infinite placed (At u v) stands =
    (Infinity, record { infinite = infinite; invertible = inverse_of_same p new.z old.z (equals p _ _ placed.z_is) stands.invertible })

-- a point added to the point at infinity
pub placed_adds : (p a : ℕ) (old new : Coordinates) (x y : ℕ) → 1 < p → x < p → y < p → old.infinite ≡ true → IsPlaced p old.z x y new
    → AddsPoint p a old (At x y) new
placed_adds p a old new x y above low_x low_y infinite placed =
    record { sum = placed_sum p a old new x y above low_x low_y infinite placed; of_some = placed_of p old new x y infinite placed }

-- where x is the same, H is 0, and the other way; so for y and R
same_h : (p : ℕ) (old : Coordinates) (x1 y1 x2 y2 h r : ℕ) → IsAt p old x1 y1 → AreDifferences p old x2 y2 h r → x1 ≡ x2 → h % p ≡ 0
same_h p old x1 y1 x2 y2 h r at by is =
    cancelled p h 0 old.x (by.of_x ∙ equals p _ _ (ap (λ (k : ℕ). k * (old.z * old.z)) (sym is)) ∙ sym at.x_is ∙ equals p _ _ (plain old.x)) ∙ zero-mod p

h_same : (p : ℕ) (old : Coordinates) (x1 y1 x2 y2 h r : ℕ) → 1 < p → x2 < p → IsAt p old x1 y1 → AreDifferences p old x2 y2 h r → h % p ≡ 0 → x1 ≡ x2
h_same p old x1 y1 x2 y2 h r above low at by is =
    same_below p x1 x2 at.x_below low
    (divided p x1 x2 (old.z * old.z) above (square_inverse p old.z above at.invertible)
    (sym at.x_is ∙ equals p _ _ (plain old.x) ∙ sums p 0 h old.x old.x (zero-mod p ∙ sym is) refl ∙ by.of_x))

same_r : (p : ℕ) (old : Coordinates) (x1 y1 x2 y2 h r : ℕ) → IsAt p old x1 y1 → AreDifferences p old x2 y2 h r → y1 ≡ y2 → r % p ≡ 0
same_r p old x1 y1 x2 y2 h r at by is =
    cancelled p r 0 old.y (by.of_y ∙ equals p _ _ (ap (λ (k : ℕ). k * (old.z * old.z * old.z)) (sym is)) ∙ sym at.y_is ∙ equals p _ _ (plain old.y))
    ∙ zero-mod p

r_same : (p : ℕ) (old : Coordinates) (x1 y1 x2 y2 h r : ℕ) → 1 < p → y2 < p → IsAt p old x1 y1 → AreDifferences p old x2 y2 h r → r % p ≡ 0 → y1 ≡ y2
r_same p old x1 y1 x2 y2 h r above low at by is =
    same_below p y1 y2 at.y_below low
    (divided p y1 y2 (old.z * old.z * old.z) above (cube_inverse p old.z above at.invertible)
    (sym at.y_is ∙ equals p _ _ (plain old.y) ∙ sums p 0 r old.y old.y (zero-mod p ∙ sym is) refl ∙ by.of_y))

-- opposite y are those of which the sum R + 2 Y is 0
as_product : (y1 y2 c : ℕ) → y2 * c + y1 * c ≡ (y1 + y2) * c
as_product y1 y2 c = grind arith

total : (p : ℕ) (old : Coordinates) (x1 y1 x2 y2 h r : ℕ) → IsAt p old x1 y1 → AreDifferences p old x2 y2 h r
    → (r + old.y + old.y) % p ≡ ((y1 + y2) * (old.z * old.z * old.z)) % p
total p old x1 y1 x2 y2 h r at by =
    let c : ℕ = old.z * old.z * old.z in
    sums p (r + old.y) (y2 * c) old.y (y1 * c) by.of_y at.y_is ∙ equals p _ _ (as_product y1 y2 c)

opposite_total : (p : ℕ) (old : Coordinates) (x1 y1 x2 y2 h r : ℕ) → IsAt p old x1 y1 → AreDifferences p old x2 y2 h r → (y1 + y2) % p ≡ 0
    → (r + old.y + old.y) % p ≡ 0
opposite_total p old x1 y1 x2 y2 h r at by is =
    let c : ℕ = old.z * old.z * old.z in
    total p old x1 y1 x2 y2 h r at by ∙ products p (y1 + y2) 0 c c (is ∙ sym (zero-mod p)) refl ∙ equals p _ _ (nothing_times c) ∙ zero-mod p

total_opposite : (p : ℕ) (old : Coordinates) (x1 y1 x2 y2 h r : ℕ) → 1 < p → IsAt p old x1 y1 → AreDifferences p old x2 y2 h r
    → (r + old.y + old.y) % p ≡ 0 → (y1 + y2) % p ≡ 0
total_opposite p old x1 y1 x2 y2 h r above at by is =
    let c : ℕ = old.z * old.z * old.z in
    divided p (y1 + y2) 0 c above (cube_inverse p old.z above at.invertible)
    (sym (total p old x1 y1 x2 y2 h r at by) ∙ is ∙ sym (equals p _ _ (nothing_times c) ∙ zero-mod p)) ∙ zero-mod p

same_sum : (p a : ℕ) (old new : Coordinates) (x2 y2 h r : ℕ) → 1 < p → x2 < p → y2 < p → old.infinite ≡ false → AreDifferences p old x2 y2 h r
    → h % p ≡ 0 → r % p ≡ 0 → Doubles p a old new
    → (s : Point) → StandsFor p old s → (t : Point) → IsSum p a s (At x2 y2) t ↔ StandsFor p new t
same_sum p a old new x2 y2 h r above low_x low_y finite by none_x none_y doubled Infinity stands t = finite_infinite old finite stands.infinite
same_sum p a old new x2 y2 h r above low_x low_y finite by none_x none_y doubled (At x y) stands t =
    subst (λ (q : Point). IsSum p a (At x y) q t ↔ StandsFor p new t)
    (λ i. At (h_same p old x y x2 y2 h r above low_x stands by none_x i) (r_same p old x y x2 y2 h r above low_y stands by none_y i))
    (doubled.sum (At x y) stands t)

-- the same point again is doubled
pub same_adds : (p a : ℕ) (old new : Coordinates) (x2 y2 h r : ℕ) → 1 < p → x2 < p → y2 < p → old.infinite ≡ false → AreDifferences p old x2 y2 h r
    → h % p ≡ 0 → r % p ≡ 0 → Doubles p a old new → AddsPoint p a old (At x2 y2) new
same_adds p a old new x2 y2 h r above low_x low_y finite by none_x none_y doubled =
    record { sum = same_sum p a old new x2 y2 h r above low_x low_y finite by none_x none_y doubled; of_some = doubled.of_some }

no_slope : (p a : ℕ) (old : Coordinates) (x1 y1 x2 y2 h r : ℕ) → IsAt p old x1 y1 → AreDifferences p old x2 y2 h r → x1 ≡ x2 → (r % p ≡ 0 → ⊥)
    → (l : ℕ) → IsSlope p a x1 y1 x2 y2 l → ⊥
no_slope p a old x1 y1 x2 y2 h r at by same other l slope =
    elim slope [
      | inl chord ↦ modulus_has_none p (x2 + p - x1) (omega (arith, same)) chord.invertible
      | inr tangent ↦ other (same_r p old x1 y1 x2 y2 h r at by tangent.1)
    ]

opposite_sum : (p a : ℕ) (old new : Coordinates) (x2 y2 h r : ℕ) → 1 < p → x2 < p → old.infinite ≡ false → AreDifferences p old x2 y2 h r
    → h % p ≡ 0 → (r % p ≡ 0 → ⊥) → (r + old.y + old.y) % p ≡ 0 → IsMadeInfinite old new
    → (s : Point) → StandsFor p old s → (t : Point) → IsSum p a s (At x2 y2) t ↔ StandsFor p new t
opposite_sum p a old new x2 y2 h r above low finite by none other opposite made Infinity stands t = finite_infinite old finite stands.infinite
opposite_sum p a old new x2 y2 h r above low finite by none other opposite made (At x y) stands t =
    let same : x ≡ x2 = h_same p old x y x2 y2 h r above low stands by none in (
      opposite_to p a old new x y x2 y2 made stands.invertible same (no_slope p a old x y x2 y2 h r stands by same other) t,
      opposite_from p a old new x y x2 y2 made same (total_opposite p old x y x2 y2 h r above stands by opposite) t,
    )

-- the opposite point leads to infinity
pub opposite_adds : (p a : ℕ) (old new : Coordinates) (x2 y2 h r : ℕ) → 1 < p → x2 < p → old.infinite ≡ false → AreDifferences p old x2 y2 h r
    → h % p ≡ 0 → (r % p ≡ 0 → ⊥) → (r + old.y + old.y) % p ≡ 0 → IsMadeInfinite old new → AddsPoint p a old (At x2 y2) new
opposite_adds p a old new x2 y2 h r above low finite by none other opposite made =
    record { sum = opposite_sum p a old new x2 y2 h r above low finite by none other opposite made; of_some = opposite_of p old new above finite made }

-- neither the same point nor the opposite one
pub record IsOther (p : ℕ) (old : Coordinates) (h r : ℕ) : Type 0 where
  pub not_same : h % p ≡ 0 → r % p ≡ 0 → ⊥
  pub not_opposite : h % p ≡ 0 → (r + old.y + old.y) % p ≡ 0 → ⊥

other_to : (p a : ℕ) (old new : Coordinates) (x y x2 y2 h r : ℕ) → 1 < p → AreDifferences p old x2 y2 h r
    → IsOther p old h r → IsAdded p old h r new → IsAt p old x y
    → (t : Point) → IsSum p a (At x y) (At x2 y2) t → StandsFor p new t
other_to p a old new x y x2 y2 h r above by apart added at Infinity sum =
    absurd (apart.not_opposite (same_h p old x y x2 y2 h r at by sum.0) (opposite_total p old x y x2 y2 h r at by sum.1))
other_to p a old new x y x2 y2 h r above by apart added at (At x3 y3) sum =
    elim sum.1 [
      | inl chord ↦ added_at p old new x y x2 y2 sum.0 x3 y3 h r above at by added chord sum.2
      | inr tangent ↦ absurd (apart.not_same (same_h p old x y x2 y2 h r at by tangent.0) (same_r p old x y x2 y2 h r at by tangent.1))
    ]

other_from : (p a : ℕ) (old new : Coordinates) (x y x2 y2 h r : ℕ) → 1 < p → AreDifferences p old x2 y2 h r → IsAdded p old h r new → IsAt p old x y
    → (t : Point) → StandsFor p new t → IsSum p a (At x y) (At x2 y2) t
other_from p a old new x y x2 y2 h r above by added at Infinity stands = finite_infinite new added.finite stands.infinite
other_from p a old new x y x2 y2 h r above by added at (At x3 y3) stands =
    let chord : (l : ℕ) × IsChord p x y x2 y2 l =
    chord_exists p x y x2 y2 (mod-eq_of_lt above) at.x_below at.y_below (difference_has p old new x y x2 y2 h r at by added stands.invertible) in
    let l : ℕ = chord.0 in
    let third : (u : ℕ) × (v : ℕ) × IsThird p x y x2 l u v = third_exists p x y x2 l (omega (arith, above)) in
    let other : IsAt p new third.0 third.1 = added_at p old new x y x2 y2 l third.0 third.1 h r above at by added chord.1 third.2 in (
      l,
      inl chord.1,
      subst (λ (u : ℕ). IsThird p x y x2 l u y3) (one_x p new third.0 third.1 x3 y3 above other stands)
          (subst (λ (v : ℕ). IsThird p x y x2 l third.0 v) (one_y p new third.0 third.1 x3 y3 above other stands) third.2),
    )

other_sum : (p a : ℕ) (old new : Coordinates) (x2 y2 h r : ℕ) → 1 < p → old.infinite ≡ false → AreDifferences p old x2 y2 h r
    → IsOther p old h r → IsAdded p old h r new
    → (s : Point) → StandsFor p old s → (t : Point) → IsSum p a s (At x2 y2) t ↔ StandsFor p new t
other_sum p a old new x2 y2 h r above finite by apart added Infinity stands t = finite_infinite old finite stands.infinite
other_sum p a old new x2 y2 h r above finite by apart added (At x y) stands t =
    (other_to p a old new x y x2 y2 h r above by apart added stands t, other_from p a old new x y x2 y2 h r above by added stands t)

other_of : (p : ℕ) (old new : Coordinates) (h r : ℕ) → 1 < p → old.infinite ≡ false → IsAdded p old h r new
    → (t : Point) → StandsFor p new t → (s : Point) × StandsFor p old s
other_of p old new h r above finite added Infinity stands = finite_infinite new added.finite stands.infinite
other_of p old new h r above finite added (At x y) stands = point_at p old above finite (added_z_has p old new h r added stands.invertible)

-- the formulas add
pub other_adds : (p a : ℕ) (old new : Coordinates) (x2 y2 h r : ℕ) → 1 < p → old.infinite ≡ false → AreDifferences p old x2 y2 h r
    → IsOther p old h r → IsAdded p old h r new → AddsPoint p a old (At x2 y2) new
other_adds p a old new x2 y2 h r above finite by apart added =
    record { sum = other_sum p a old new x2 y2 h r above finite by apart added; of_some = other_of p old new h r above finite added }
