-- Which points Jacobian coordinates stand for.
use Rattle.std.proofs.Common.{◌≡◌, ℕ, ◌*◌, ◌%◌, ◌<◌, Bool, true, false, refl, sym, ap, ◌∙◌, arith}
use Rattle.std.proofs.Math.Nat.{mod-mod, mod-lt, mod-eq_of_lt, zero-mod, mul-mod_right}
use Rattle.jc_numbers.specs.Inverses.{HasInverse, IsInverse}
use Rattle.jc_curves.specs.Points.{Point, Infinity, At}
use Rattle.jc_curves.specs.Jacobian.{Coordinates, IsAt, StandsFor}
use Rattle.jc_curves.proofs.Congruences.{products, equals, divided, inverse_of_product}

pub true_false : {X : Type 0} (b : Bool) → b ≡ true → b ≡ false → X
true_false b holds fails = absurd (cc)

pub square_inverse : (p z : ℕ) → 1 < p → HasInverse p z → HasInverse p (z * z)
square_inverse p z above has = inverse_of_product p z z above has has

pub cube_inverse : (p z : ℕ) → 1 < p → HasInverse p z → HasInverse p (z * z * z)
cube_inverse p z above has = inverse_of_product p (z * z) z above (square_inverse p z above has) has

pub same_below : (p x y : ℕ) → x < p → y < p → x % p ≡ y % p → x ≡ y
same_below p x y low below e = sym (mod-eq_of_lt low) ∙ e ∙ mod-eq_of_lt below

-- coordinates stand for one point at most
pub one_x : (p : ℕ) (c : Coordinates) (x y x' y' : ℕ) → 1 < p → IsAt p c x y → IsAt p c x' y' → x ≡ x'
one_x p c x y x' y' above at other =
    same_below p x x' at.x_below other.x_below
    (divided p x x' (c.z * c.z) above (square_inverse p c.z above at.invertible) (sym at.x_is ∙ other.x_is))

pub one_y : (p : ℕ) (c : Coordinates) (x y x' y' : ℕ) → 1 < p → IsAt p c x y → IsAt p c x' y' → y ≡ y'
one_y p c x y x' y' above at other =
    same_below p y y' at.y_below other.y_below
    (divided p y y' (c.z * c.z * c.z) above (cube_inverse p c.z above at.invertible) (sym at.y_is ∙ other.y_is))

scaled : (x v z : ℕ) → (x * (v * v)) * (z * z) ≡ x * ((z * v) * (z * v))
scaled x v z = grind arith

scaled_y : (y v z : ℕ) → (y * (v * v * v)) * (z * z * z) ≡ y * ((z * v) * (z * v) * (z * v))
scaled_y y v z = grind arith

times_one : (x : ℕ) → x * (1 * 1) ≡ x
times_one x = grind arith

times_ones : (x : ℕ) → x * (1 * 1 * 1) ≡ x
times_ones x = grind arith

-- and they do where Z has an inverse, for a point that is not at infinity: x = X v², y = Y v³
pub affine_at : (p : ℕ) (c : Coordinates) (v x y : ℕ) → 1 < p → c.infinite ≡ false → IsInverse p c.z v → x < p → y < p
    → x % p ≡ (c.x * (v * v)) % p → y % p ≡ (c.y * (v * v * v)) % p → IsAt p c x y
affine_at p c v x y above finite inverse low_x low_y is_x is_y =
    let one : (c.z * v) % p ≡ 1 % p = inverse ∙ sym (mod-eq_of_lt above) in
    let square : ((c.z * v) * (c.z * v)) % p ≡ (1 * 1) % p = products p (c.z * v) 1 (c.z * v) 1 one one in
    let cube : ((c.z * v) * (c.z * v) * (c.z * v)) % p ≡ (1 * 1 * 1) % p = products p _ _ (c.z * v) 1 square one in
    record {
      finite = finite;
      invertible = (v, inverse);
      x_below = low_x;
      y_below = low_y;
      x_is = sym (products p x (c.x * (v * v)) (c.z * c.z) (c.z * c.z) is_x refl
          ∙ equals p _ _ (scaled c.x v c.z) ∙ products p c.x c.x _ (1 * 1) refl square ∙ equals p _ _ (times_one c.x));
      y_is = sym (products p y (c.y * (v * v * v)) (c.z * c.z * c.z) (c.z * c.z * c.z) is_y refl
          ∙ equals p _ _ (scaled_y c.y v c.z) ∙ products p c.y c.y _ (1 * 1 * 1) refl cube ∙ equals p _ _ (times_ones c.y));
    }

pub stands_at : (p : ℕ) (c : Coordinates) → 1 < p → c.infinite ≡ false → HasInverse p c.z → (x : ℕ) × (y : ℕ) × IsAt p c x y
stands_at p c above finite has =
    let v : ℕ = has.0 in
    let some : 0 < p = omega (arith, above) in (
      (c.x * (v * v)) % p,
      (c.y * (v * v * v)) % p,
      affine_at p c v _ _ above finite has.1 (mod-lt (c.x * (v * v)) some) (mod-lt (c.y * (v * v * v)) some)
          (mod-mod (c.x * (v * v)) p) (mod-mod (c.y * (v * v * v)) p),
    )

-- a point at which finite coordinates stand
pub point_at : (p : ℕ) (c : Coordinates) → 1 < p → c.infinite ≡ false → HasInverse p c.z → (s : Point) × StandsFor p c s
point_at p c above finite has =
    let there : (x : ℕ) × (y : ℕ) × IsAt p c x y = stands_at p c above finite has in
    (At there.0 there.1, there.2)

-- ---- what has no inverse

none_of_zero : (p v : ℕ) → (0 * v) % p ≡ 0
none_of_zero p v = equals p (0 * v) 0 (grind arith) ∙ zero-mod p

pub zero_has_none : {X : Type 0} (p x : ℕ) → x ≡ 0 → HasInverse p x → X
zero_has_none p x is has =
    let nothing : (x * has.0) % p ≡ 0 = equals p _ _ (ap (λ (k : ℕ). k * has.0) is) ∙ none_of_zero p has.0 in
    absurd (omega (arith, nothing, has.1))

pub modulus_has_none : {X : Type 0} (p x : ℕ) → x ≡ p → HasInverse p x → X
modulus_has_none p x is has =
    let nothing : (x * has.0) % p ≡ 0 = equals p _ _ (ap (λ (k : ℕ). k * has.0) is) ∙ mul-mod_right p has.0 in
    absurd (omega (arith, nothing, has.1))

-- where Z has no inverse, coordinates stand for nothing
pub none_stands : (p : ℕ) (c : Coordinates) → (HasInverse p c.z → ⊥) → (r : Point) → StandsFor p c r → ⊥
none_stands p c none Infinity stands = none stands.invertible
none_stands p c none (At x y) stands = none stands.invertible
