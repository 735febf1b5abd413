-- A doubling in Jacobian coordinates stands for the doubled point.
use Rattle.std.proofs.Common.{◌≡◌, ℕ, ◌+◌, ◌*◌, ◌%◌, ◌<◌, refl, sym, ◌∙◌, arith}
use Rattle.jc_numbers.specs.Inverses.{HasInverse}
use Rattle.jc_curves.specs.Points.{IsTangent, IsThird}
use Rattle.jc_curves.specs.Jacobian.{Coordinates, IsAt, IsDoubled}
use Rattle.jc_curves.proofs.Congruences.{sums, products, equals, inverse_of_first, inverse_of_second, inverse_of_product, inverse_of_same}
use Rattle.jc_curves.proofs.Thirds.{third_x, third_y}
use Rattle.jc_curves.proofs.Standing.{square_inverse}

gathered : (a x z : ℕ) → 3 * ((x * (z * z)) * (x * (z * z))) + a * (z * z * (z * z)) ≡ (3 * (x * x) + a) * (z * z * (z * z))
gathered a x z = grind arith

by_z : (l y z : ℕ) → (l * (2 * y)) * (z * z * (z * z)) ≡ l * (2 * ((y * (z * z * z)) * z))
by_z l y z = grind arith

-- M = l Z'
pub slope_is : (p a x y l u v z m w : ℕ) → u % p ≡ (x * (z * z)) % p → v % p ≡ (y * (z * z * z)) % p
    → (l * (2 * y)) % p ≡ (3 * (x * x) + a) % p → m % p ≡ (3 * (u * u) + a * (z * z * (z * z))) % p → w % p ≡ (2 * (v * z)) % p
    → m % p ≡ (l * w) % p
slope_is p a x y l u v z m w at_x at_y tangent slope is =
    let q : ℕ = z * z * (z * z) in
    let xs : ℕ = x * (z * z) in
    let ys : ℕ = y * (z * z * z) in
    slope
    ∙ sums p (3 * (u * u)) (3 * (xs * xs)) (a * q) (a * q) (products p 3 3 (u * u) (xs * xs) refl (products p u xs u xs at_x at_x)) refl
    ∙ equals p _ _ (gathered a x z)
    ∙ products p (3 * (x * x) + a) (l * (2 * y)) q q (sym tangent) refl
    ∙ equals p _ _ (by_z l y z)
    ∙ products p l l (2 * (ys * z)) (2 * (v * z)) refl (products p 2 2 (ys * z) (v * z) refl (products p ys v z z (sym at_y) refl))
    ∙ products p l l (2 * (v * z)) w refl (sym is)

four : (x v z : ℕ) → x * ((2 * (v * z)) * (2 * (v * z))) ≡ 4 * ((x * (z * z)) * (v * v))
four x v z = grind arith

eight : (y v z : ℕ) → y * ((2 * (v * z)) * (2 * (v * z)) * (2 * (v * z))) ≡ 8 * ((y * (z * z * z)) * (v * v * v))
eight y v z = grind arith

in_pairs : (v : ℕ) → 8 * (v * (v * v * v)) ≡ 8 * (v * v * (v * v))
in_pairs v = grind arith

-- S = x Z'²
pub middle_is : (p x u v z w : ℕ) → u % p ≡ (x * (z * z)) % p → w % p ≡ (2 * (v * z)) % p → (4 * (u * (v * v))) % p ≡ (x * (w * w)) % p
middle_is p x u v z w at is =
    let d : ℕ = 2 * (v * z) in
    products p 4 4 (u * (v * v)) ((x * (z * z)) * (v * v)) refl (products p u (x * (z * z)) (v * v) (v * v) at refl)
    ∙ equals p _ _ (sym (four x v z))
    ∙ products p x x (d * d) (w * w) refl (products p d w d w (sym is) (sym is))

-- 8 Y⁴ = y Z'³
pub last_is : (p y v z w : ℕ) → v % p ≡ (y * (z * z * z)) % p → w % p ≡ (2 * (v * z)) % p → (8 * (v * v * (v * v))) % p ≡ (y * (w * w * w)) % p
last_is p y v z w at is =
    let d : ℕ = 2 * (v * z) in
    let ys : ℕ = y * (z * z * z) in
    equals p _ _ (sym (in_pairs v))
    ∙ products p 8 8 (v * (v * v * v)) (ys * (v * v * v)) refl (products p v ys (v * v * v) (v * v * v) at refl)
    ∙ equals p _ _ (sym (eight y v z))
    ∙ products p y y (d * d * d) (w * w * w) refl (products p (d * d) (w * w) d w (products p d w d w (sym is) (sym is)) (sym is))

twice : (x q : ℕ) → 2 * (x * q) ≡ (x + x) * q
twice x q = grind arith

long_z : (y z : ℕ) → 2 * ((y * (z * z * z)) * z) ≡ (2 * y) * (z * z * (z * z))
long_z y z = grind arith

-- Z' = 2 y Z⁴
pub new_z : (p y v z w : ℕ) → v % p ≡ (y * (z * z * z)) % p → w % p ≡ (2 * (v * z)) % p → w % p ≡ ((2 * y) * (z * z * (z * z))) % p
new_z p y v z w at is =
    is ∙ products p 2 2 (v * z) ((y * (z * z * z)) * z) refl (products p v (y * (z * z * z)) z z at refl) ∙ equals p _ _ (long_z y z)

-- new coordinates stand for the third point of the tangent
pub doubled_at : (p a : ℕ) (old new : Coordinates) (x y l x3 y3 : ℕ) → 1 < p → IsAt p old x y → IsDoubled p a old new
    → IsTangent p a x y l → IsThird p x y x l x3 y3 → IsAt p new x3 y3
doubled_at p a old new x y l x3 y3 above at doubled tangent third =
    let w : ℕ = new.z in
    let slope : doubled.slope % p ≡ (l * w) % p =
    slope_is p a x y l old.x old.y old.z doubled.slope w at.x_is at.y_is tangent.slope doubled.is_slope doubled.z in
    let middle : (4 * (old.x * (old.y * old.y))) % p ≡ (x * (w * w)) % p = middle_is p x old.x old.y old.z w at.x_is doubled.z in
    let last : (8 * (old.y * old.y * (old.y * old.y))) % p ≡ (y * (w * w * w)) % p = last_is p y old.y old.z w at.y_is doubled.z in
    let both : (2 * (4 * (old.x * (old.y * old.y)))) % p ≡ ((x + x) * (w * w)) % p =
    products p 2 2 _ (x * (w * w)) refl middle ∙ equals p _ _ (twice x (w * w)) in
    let here : new.x % p ≡ (x3 * (w * w)) % p =
    third_x p doubled.slope l w new.x x x x3 slope
    (sums p new.x new.x ((x + x) * (w * w)) (2 * (4 * (old.x * (old.y * old.y)))) refl (sym both) ∙ doubled.x) third.x in
    let made : (new.y + doubled.slope * new.x + y * (w * w * w)) % p ≡ (doubled.slope * (x * (w * w))) % p =
    sums p (new.y + doubled.slope * new.x) (new.y + doubled.slope * new.x) (y * (w * w * w)) (8 * (old.y * old.y * (old.y * old.y))) refl (sym last)
    ∙ doubled.y ∙ products p doubled.slope doubled.slope _ (x * (w * w)) refl middle in
    record {
      finite = doubled.finite;
      invertible = inverse_of_same p ((2 * y) * (old.z * old.z * (old.z * old.z))) w (sym (new_z p y old.y old.z w at.y_is doubled.z))
          (inverse_of_product p (2 * y) _ above tangent.invertible
          (square_inverse p (old.z * old.z) above (square_inverse p old.z above at.invertible)));
      x_below = third.x_below;
      y_below = third.y_below;
      x_is = here;
      y_is = third_y p doubled.slope l w new.x new.y x y x3 y3 slope here made third.y;
    }

-- where Z' has an inverse, so have Z and 2 y
pub old_z_has : (p a : ℕ) (old new : Coordinates) → IsDoubled p a old new → HasInverse p new.z → HasInverse p old.z
old_z_has p a old new doubled has =
    inverse_of_second p old.y old.z (inverse_of_second p 2 (old.y * old.z) (inverse_of_same p new.z _ doubled.z has))

pub twice_y_has : (p a : ℕ) (old new : Coordinates) (x y : ℕ) → IsAt p old x y → IsDoubled p a old new → HasInverse p new.z → HasInverse p (2 * y)
twice_y_has p a old new x y at doubled has =
    inverse_of_first p (2 * y) _ (inverse_of_same p new.z _ (new_z p y old.y old.z new.z at.y_is doubled.z) has)

divided_out : (n y v : ℕ) → (n * v) * (2 * y) ≡ n * ((2 * y) * v)
divided_out n y v = grind arith

one_more : (n : ℕ) → n * 1 ≡ n
one_more n = grind arith

-- each point with an inverse of 2 y has a tangent
pub tangent_exists : (p a x y : ℕ) → 1 % p ≡ 1 → HasInverse p (2 * y) → (l : ℕ) × IsTangent p a x y l
tangent_exists p a x y one has =
    let n : ℕ = 3 * (x * x) + a in (
      n * has.0,
      record {
        invertible = has;
        slope = equals p _ _ (divided_out n y has.0) ∙ products p n n ((2 * y) * has.0) 1 refl (has.1 ∙ sym one) ∙ equals p _ _ (one_more n);
      },
    )
