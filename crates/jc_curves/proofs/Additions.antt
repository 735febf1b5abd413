-- An addition of an affine point in Jacobian coordinates stands for the sum.
use Rattle.std.proofs.Common.{◌≡◌, ℕ, ◌+◌, ◌-◌, ◌*◌, ◌%◌, ◌<◌, refl, sym, ap, ◌∙◌, arith}
use Rattle.std.proofs.Math.Nat.{add-mul-mod_self_left}
use Rattle.jc_numbers.specs.Inverses.{HasInverse}
use Rattle.jc_curves.specs.Points.{IsChord, IsThird}
use Rattle.jc_curves.specs.Jacobian.{AreDifferences, Coordinates, IsAdded, IsAt, IsPlaced}
use Rattle.jc_curves.proofs.Congruences.{sums, products, equals, cancelled, inverse_of_first, inverse_of_second, inverse_of_product, inverse_of_same}
use Rattle.jc_curves.proofs.Thirds.{third_x, third_y}
use Rattle.jc_curves.proofs.Standing.{square_inverse}

whole : (x1 x2 p : ℕ) → x1 < p → x2 + p - x1 + x1 ≡ x2 + p
whole x1 x2 p low = omega (arith, low)

with_modulus : (x2 p q : ℕ) → (x2 + p) * q ≡ x2 * q + p * q
with_modulus x2 p q = grind arith

parted : (d x1 q : ℕ) → d * q + x1 * q ≡ (d + x1) * q
parted d x1 q = grind arith

-- H = (x2 - x1) Z²
pub h_is : (p x1 x2 u z h : ℕ) → x1 < p → u % p ≡ (x1 * (z * z)) % p → (h + u) % p ≡ (x2 * (z * z)) % p → h % p ≡ ((x2 + p - x1) * (z * z)) % p
h_is p x1 x2 u z h low at is =
    let q : ℕ = z * z in
    let d : ℕ = x2 + p - x1 in
    cancelled p h (d * q) (x1 * q)
    (sums p h h (x1 * q) u refl (sym at) ∙ is
    ∙ sym (equals p _ _ (parted d x1 q ∙ ap (λ (k : ℕ). k * q) (whole x1 x2 p low) ∙ with_modulus x2 p q) ∙ add-mul-mod_self_left (x2 * q) p q))

left_side : (l z h u y x2 : ℕ) → l * (z * h) + (y * (z * z * z) + (l * z) * u) ≡ (l * z) * (h + u) + y * (z * z * z)
left_side l z h u y x2 = grind arith

by_cube : (l z x2 y : ℕ) → (l * z) * (x2 * (z * z)) + y * (z * z * z) ≡ (l * x2 + y) * (z * z * z)
by_cube l z x2 y = grind arith

right_side : (r v w : ℕ) → w + (r + v) ≡ r + (v + w)
right_side r v w = grind arith

-- R = l Z'
pub r_is : (p x1 y1 x2 y2 l u v z h r : ℕ) → u % p ≡ (x1 * (z * z)) % p → v % p ≡ (y1 * (z * z * z)) % p
    → (h + u) % p ≡ (x2 * (z * z)) % p → (r + v) % p ≡ (y2 * (z * z * z)) % p → (l * x2 + y1) % p ≡ (l * x1 + y2) % p
    → r % p ≡ (l * (z * h)) % p
r_is p x1 y1 x2 y2 l u v z h r at_x at_y of_x of_y chord =
    let c : ℕ = z * z * z in
    let lz : ℕ = l * z in
    let xs : ℕ = x1 * (z * z) in
    let left : (l * (z * h) + (v + lz * u)) % p ≡ ((l * x2 + y1) * c) % p =
    sums p (l * (z * h)) (l * (z * h)) (v + lz * u) (y1 * c + lz * u) refl (sums p v (y1 * c) (lz * u) (lz * u) at_y refl)
    ∙ equals p _ _ (left_side l z h u y1 x2)
    ∙ sums p (lz * (h + u)) (lz * (x2 * (z * z))) (y1 * c) (y1 * c) (products p lz lz (h + u) (x2 * (z * z)) refl of_x) refl
    ∙ equals p _ _ (by_cube l z x2 y1) in
    let right : ((l * x1 + y2) * c) % p ≡ (r + (v + lz * u)) % p =
    equals p _ _ (sym (by_cube l z x1 y2))
    ∙ sums p (lz * xs) (lz * u) (y2 * c) (r + v) (products p lz lz xs u refl (sym at_x)) (sym of_y)
    ∙ equals p _ _ (right_side r v (lz * u)) in
    sym (cancelled p (l * (z * h)) r (v + lz * u) (left ∙ products p (l * x2 + y1) (l * x1 + y2) c c chord refl ∙ right))

squared : (x z h : ℕ) → (x * (z * z)) * (h * h) ≡ x * ((z * h) * (z * h))
squared x z h = grind arith

cubed : (y z h : ℕ) → (y * (z * z * z)) * (h * h * h) ≡ y * ((z * h) * (z * h) * (z * h))
cubed y z h = grind arith

-- X H² = x1 Z'²
pub start_x : (p x u z h w : ℕ) → u % p ≡ (x * (z * z)) % p → w % p ≡ (z * h) % p → (u * (h * h)) % p ≡ (x * (w * w)) % p
start_x p x u z h w at is =
    let e : ℕ = z * h in
    products p u (x * (z * z)) (h * h) (h * h) at refl ∙ equals p _ _ (squared x z h)
    ∙ products p x x (e * e) (w * w) refl (products p e w e w (sym is) (sym is))

-- Y H³ = y1 Z'³
pub start_y : (p y v z h w : ℕ) → v % p ≡ (y * (z * z * z)) % p → w % p ≡ (z * h) % p → (v * (h * h * h)) % p ≡ (y * (w * w * w)) % p
start_y p y v z h w at is =
    let e : ℕ = z * h in
    products p v (y * (z * z * z)) (h * h * h) (h * h * h) at refl ∙ equals p _ _ (cubed y z h)
    ∙ products p y y (e * e * e) (w * w * w) refl (products p (e * e) (w * w) e w (products p e w e w (sym is) (sym is)) (sym is))

as_sum : (h u : ℕ) → h * h * h + 2 * (u * (h * h)) ≡ ((h + u) + u) * (h * h)
as_sum h u = grind arith

both_x : (x1 x2 z h : ℕ) → (x2 * (z * z) + x1 * (z * z)) * (h * h) ≡ (x1 + x2) * ((z * h) * (z * h))
both_x x1 x2 z h = grind arith

-- H³ + 2 X H² = (x1 + x2) Z'²
pub ends_x : (p x1 x2 u z h w : ℕ) → u % p ≡ (x1 * (z * z)) % p → (h + u) % p ≡ (x2 * (z * z)) % p → w % p ≡ (z * h) % p
    → (h * h * h + 2 * (u * (h * h))) % p ≡ ((x1 + x2) * (w * w)) % p
ends_x p x1 x2 u z h w at of_x is =
    let e : ℕ = z * h in
    equals p _ _ (as_sum h u)
    ∙ products p ((h + u) + u) (x2 * (z * z) + x1 * (z * z)) (h * h) (h * h) (sums p (h + u) (x2 * (z * z)) u (x1 * (z * z)) of_x at) refl
    ∙ equals p _ _ (both_x x1 x2 z h)
    ∙ products p (x1 + x2) (x1 + x2) (e * e) (w * w) refl (products p e w e w (sym is) (sym is))

-- new coordinates stand for the third point of the chord
pub added_at : (p : ℕ) (old new : Coordinates) (x1 y1 x2 y2 l x3 y3 h r : ℕ) → 1 < p → IsAt p old x1 y1 → AreDifferences p old x2 y2 h r
    → IsAdded p old h r new → IsChord p x1 y1 x2 y2 l → IsThird p x1 y1 x2 l x3 y3 → IsAt p new x3 y3
added_at p old new x1 y1 x2 y2 l x3 y3 h r above at by added chord third =
    let w : ℕ = new.z in
    let e : ℕ = old.z * h in
    let slope : r % p ≡ (l * w) % p =
    r_is p x1 y1 x2 y2 l old.x old.y old.z h r at.x_is at.y_is by.of_x by.of_y chord.slope ∙ products p l l e w refl (sym added.z) in
    let ends : (h * h * h + 2 * (old.x * (h * h))) % p ≡ ((x1 + x2) * (w * w)) % p = ends_x p x1 x2 old.x old.z h w at.x_is by.of_x added.z in
    let from_x : (old.x * (h * h)) % p ≡ (x1 * (w * w)) % p = start_x p x1 old.x old.z h w at.x_is added.z in
    let from_y : (old.y * (h * h * h)) % p ≡ (y1 * (w * w * w)) % p = start_y p y1 old.y old.z h w at.y_is added.z in
    let here : new.x % p ≡ (x3 * (w * w)) % p =
    third_x p r l w new.x x1 x2 x3 slope (sums p new.x new.x ((x1 + x2) * (w * w)) _ refl (sym ends) ∙ added.x) third.x in
    let made : (new.y + r * new.x + y1 * (w * w * w)) % p ≡ (r * (x1 * (w * w))) % p =
    sums p (new.y + r * new.x) (new.y + r * new.x) (y1 * (w * w * w)) (old.y * (h * h * h)) refl (sym from_y)
    ∙ added.y ∙ products p r r _ (x1 * (w * w)) refl from_x in
    let difference : h % p ≡ ((x2 + p - x1) * (old.z * old.z)) % p = h_is p x1 x2 old.x old.z h at.x_below at.x_is by.of_x in
    record {
      finite = added.finite;
      invertible = inverse_of_same p e w (sym added.z) (inverse_of_product p old.z h above at.invertible
          (inverse_of_same p ((x2 + p - x1) * (old.z * old.z)) h (sym difference)
          (inverse_of_product p (x2 + p - x1) (old.z * old.z) above chord.invertible (square_inverse p old.z above at.invertible))));
      x_below = third.x_below;
      y_below = third.y_below;
      x_is = here;
      y_is = third_y p r l w new.x new.y x1 y1 x3 y3 slope here made third.y;
    }

-- where Z' has an inverse, so have Z and x2 - x1
pub added_z_has : (p : ℕ) (old new : Coordinates) (h r : ℕ) → IsAdded p old h r new → HasInverse p new.z → HasInverse p old.z
added_z_has p old new h r added has = inverse_of_first p old.z h (inverse_of_same p new.z _ added.z has)

pub difference_has : (p : ℕ) (old new : Coordinates) (x1 y1 x2 y2 h r : ℕ) → IsAt p old x1 y1 → AreDifferences p old x2 y2 h r
    → IsAdded p old h r new → HasInverse p new.z → HasInverse p (x2 + p - x1)
difference_has p old new x1 y1 x2 y2 h r at by added has =
    inverse_of_first p (x2 + p - x1) (old.z * old.z)
    (inverse_of_same p h _ (h_is p x1 x2 old.x old.z h at.x_below at.x_is by.of_x) (inverse_of_second p old.z h (inverse_of_same p new.z _ added.z has)))

chord_left : (e v d x1 y1 : ℕ) → (e * v) * (d + x1) + y1 ≡ e * (d * v) + ((e * v) * x1 + y1)
chord_left e v d x1 y1 = grind arith

chord_right : (e m y1 : ℕ) → e * 1 + (m + y1) ≡ m + (e + y1)
chord_right e m y1 = grind arith

dropped : (m y p : ℕ) → m + (y + p) ≡ m + y + p * 1
dropped m y p = grind arith

times_modulus : (m x p y : ℕ) → m * (x + p) + y ≡ m * x + y + p * m
times_modulus m x p y = grind arith

-- each two points with an inverse of x2 - x1 have a chord
pub chord_exists : (p x1 y1 x2 y2 : ℕ) → 1 % p ≡ 1 → x1 < p → y1 < p → HasInverse p (x2 + p - x1) → (l : ℕ) × IsChord p x1 y1 x2 y2 l
chord_exists p x1 y1 x2 y2 one low_x low_y has =
    let v : ℕ = has.0 in
    let d : ℕ = x2 + p - x1 in
    let e : ℕ = y2 + p - y1 in
    let l : ℕ = e * v in (
      l,
      record {
        invertible = has;
        slope = sym (add-mul-mod_self_left (l * x2 + y1) p l) ∙ equals p _ _ (sym (times_modulus l x2 p y1)
            ∙ ap (λ (k : ℕ). l * k + y1) (sym (whole x1 x2 p low_x)) ∙ chord_left e v d x1 y1)
            ∙ sums p (e * (d * v)) (e * 1) (l * x1 + y1) (l * x1 + y1) (products p e e (d * v) 1 refl (has.1 ∙ sym one)) refl
            ∙ equals p _ _ (chord_right e (l * x1) y1 ∙ ap (λ (k : ℕ). l * x1 + k) (whole y1 y2 p low_y) ∙ dropped (l * x1) y2 p)
            ∙ add-mul-mod_self_left (l * x1 + y2) p 1;
      },
    )

-- the point itself, with the Z of other coordinates
pub placed_at : (p : ℕ) (old new : Coordinates) (x y : ℕ) → x < p → y < p → IsPlaced p old.z x y new → HasInverse p old.z → IsAt p new x y
placed_at p old new x y low_x low_y placed has =
    record {
      finite = placed.finite;
      invertible = inverse_of_same p old.z new.z (equals p _ _ (sym placed.z_is)) has;
      x_below = low_x;
      y_below = low_y;
      x_is = placed.x_is ∙ equals p _ _ (ap (λ (z : ℕ). x * (z * z)) (sym placed.z_is));
      y_is = placed.y_is ∙ equals p _ _ (ap (λ (z : ℕ). y * (z * z * z)) (sym placed.z_is));
    }
