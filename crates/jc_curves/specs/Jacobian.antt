-- Points in Jacobian coordinates: X, Y, Z stand for x = X / Z², y = Y / Z³, where Z has an inverse.
use Rattle.std.specs.Prelude.{◌≡◌, ◌↔◌, ℕ, Bool, true, false, ◌+◌, ◌*◌, ◌%◌, ◌<◌}
use Rattle.jc_numbers.specs.Inverses.{HasInverse}
use Rattle.jc_curves.specs.Points.{Point, Infinity, At, IsSum}

-- the coordinates, and whether the point is the one at infinity
pub record Coordinates : Type 0 where
  pub x : ℕ
  pub y : ℕ
  pub z : ℕ
  pub infinite : Bool

-- coordinates stand for a point. Where Z has no inverse they stand for none
pub record IsAt (p : ℕ) (c : Coordinates) (x y : ℕ) : Type 0 where
  pub finite : c.infinite ≡ false
  pub invertible : HasInverse p c.z
  pub x_below : x < p
  pub y_below : y < p
  pub x_is : c.x % p ≡ (x * (c.z * c.z)) % p
  pub y_is : c.y % p ≡ (y * (c.z * c.z * c.z)) % p

pub record IsAtInfinity (p : ℕ) (c : Coordinates) : Type 0 where
  pub infinite : c.infinite ≡ true
  pub invertible : HasInverse p c.z

abbrev pub StandsFor : ℕ → Coordinates → Point → Type 0
StandsFor p c Infinity = IsAtInfinity p c
StandsFor p c (At x y) = IsAt p c x y

-- new coordinates stand for the sum of q and of the point that old ones stand for, where there is one, and for nothing else
pub record AddsPoint (p a : ℕ) (old : Coordinates) (q : Point) (new : Coordinates) : Type 0 where
  pub sum : (s : Point) → StandsFor p old s → (r : Point) → IsSum p a s q r ↔ StandsFor p new r
  pub of_some : (r : Point) → StandsFor p new r → (s : Point) × StandsFor p old s

-- new coordinates stand for twice the point that old ones stand for, where there is one, and for nothing else
pub record Doubles (p a : ℕ) (old new : Coordinates) : Type 0 where
  pub sum : (s : Point) → StandsFor p old s → (r : Point) → IsSum p a s s r ↔ StandsFor p new r
  pub of_some : (r : Point) → StandsFor p new r → (s : Point) × StandsFor p old s

-- M = 3 X² + a Z⁴
abbrev pub IsTangentSlope : ℕ → ℕ → Coordinates → ℕ → Type 0
IsTangentSlope p a c m = m % p ≡ (3 * (c.x * c.x) + a * (c.z * c.z * (c.z * c.z))) % p

-- the formulas of a doubling: M = 3 X² + a Z⁴, S = 4 X Y², X' = M² - 2 S, Y' = M (S - X') - 8 Y⁴, Z' = 2 Y Z
pub record IsDoubled (p a : ℕ) (old new : Coordinates) : Type 0 where
  pub finite : new.infinite ≡ false
  pub slope : ℕ
  pub is_slope : IsTangentSlope p a old slope
  pub x : (new.x + 2 * (4 * (old.x * (old.y * old.y)))) % p ≡ (slope * slope) % p
  pub y : (new.y + slope * new.x + 8 * (old.y * old.y * (old.y * old.y))) % p ≡ (slope * (4 * (old.x * (old.y * old.y)))) % p
  pub z : new.z % p ≡ (2 * (old.y * old.z)) % p

-- the differences by which a point is added: H = x Z² - X, R = y Z³ - Y
pub record AreDifferences (p : ℕ) (old : Coordinates) (x y h r : ℕ) : Type 0 where
  pub of_x : (h + old.x) % p ≡ (x * (old.z * old.z)) % p
  pub of_y : (r + old.y) % p ≡ (y * (old.z * old.z * old.z)) % p

-- the formulas of an addition: X' = R² - H³ - 2 X H², Y' = R (X H² - X') - Y H³, Z' = Z H
pub record IsAdded (p : ℕ) (old : Coordinates) (h r : ℕ) (new : Coordinates) : Type 0 where
  pub finite : new.infinite ≡ false
  pub x : (new.x + (h * h * h + 2 * (old.x * (h * h)))) % p ≡ (r * r) % p
  pub y : (new.y + r * new.x + old.y * (h * h * h)) % p ≡ (r * (old.x * (h * h))) % p
  pub z : new.z % p ≡ (old.z * h) % p

-- the point (x, y) by a Z
pub record IsPlaced (p z x y : ℕ) (new : Coordinates) : Type 0 where
  pub finite : new.infinite ≡ false
  pub x_is : new.x % p ≡ (x * (z * z)) % p
  pub y_is : new.y % p ≡ (y * (z * z * z)) % p
  pub z_is : new.z ≡ z

-- the point at infinity with the Z of other coordinates
pub record IsMadeInfinite (old new : Coordinates) : Type 0 where
  pub infinite : new.infinite ≡ true
  pub z : new.z ≡ old.z
