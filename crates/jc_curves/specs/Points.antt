-- Points of a curve y² = x³ + a x + b modulo p, and their sums (SEC 1, 2.2.1).
use Rattle.std.specs.Prelude.{◌≡◌, ℕ, zero, suc, ◌+◌, ◌-◌, ◌*◌, ◌/◌, ◌%◌, ◌^◌, ◌<◌, ◌⊎◌}
use Rattle.jc_numbers.specs.Inverses.{HasInverse}

-- the point at infinity, or the point of these coordinates
pub data Point : Type 0 where
  Infinity : Point
  At : ℕ → ℕ → Point

-- x and y are the coordinates of a point of the curve
pub record IsOnCurve (p a b x y : ℕ) : Type 0 where
  pub x_below : x < p
  pub y_below : y < p
  pub equation : (y * y) % p ≡ (x * x * x + a * x + b) % p

-- l is the slope of the line through two points whose x differ by an invertible number: l (x2 - x1) = y2 - y1
pub record IsChord (p x1 y1 x2 y2 l : ℕ) : Type 0 where
  pub invertible : HasInverse p (x2 + p - x1)
  pub slope : (l * x2 + y1) % p ≡ (l * x1 + y2) % p

-- l is the slope of the tangent in a point of which 2 y is invertible: l 2 y = 3 x² + a
pub record IsTangent (p a x y l : ℕ) : Type 0 where
  pub invertible : HasInverse p (2 * y)
  pub slope : (l * (2 * y)) % p ≡ (3 * (x * x) + a) % p

-- l is the slope of the line through two points, or of the tangent where they are one
abbrev pub IsSlope : ℕ → ℕ → ℕ → ℕ → ℕ → ℕ → ℕ → Type 0
IsSlope p a x1 y1 x2 y2 l = IsChord p x1 y1 x2 y2 l ⊎ ((x1 ≡ x2) × (y1 ≡ y2) × IsTangent p a x1 y1 l)

-- the sum of two points by the slope l: x3 = l² - x1 - x2, y3 = l (x1 - x3) - y1
pub record IsThird (p x1 y1 x2 l x3 y3 : ℕ) : Type 0 where
  pub x_below : x3 < p
  pub y_below : y3 < p
  pub x : (x3 + x1 + x2) % p ≡ (l * l) % p
  pub y : (y3 + y1 + l * x3) % p ≡ (l * x1) % p

-- r is the sum of two points. Modulo a prime each two points have one; modulo another number a denominator may have no inverse
abbrev pub IsSum : ℕ → ℕ → Point → Point → Point → Type 0
IsSum p a Infinity q r = r ≡ q
IsSum p a (At x1 y1) Infinity r = r ≡ At x1 y1
IsSum p a (At x1 y1) (At x2 y2) Infinity = (x1 ≡ x2) × ((y1 + y2) % p ≡ 0)
IsSum p a (At x1 y1) (At x2 y2) (At x3 y3) = (l : ℕ) × IsSlope p a x1 y1 x2 y2 l × IsThird p x1 y1 x2 l x3 y3

-- r is d, and q added where the bit is 1
abbrev pub IsSumWithBit : ℕ → ℕ → Point → ℕ → Point → Point → Type 0
IsSumWithBit p a d zero q r = r ≡ d
IsSumWithBit p a d (suc bit) q r = IsSum p a d q r

-- r is the multiple of q by the lowest m bits of k, by the binary method from the highest of them: doubled, and q added where
-- the bit is 1
abbrev pub IsMultipleByBits : ℕ → ℕ → ℕ → ℕ → Point → Point → Type 0
IsMultipleByBits p a k zero q r = r ≡ Infinity
IsMultipleByBits p a k (suc m) q r =
    (s : Point) × (d : Point) × IsMultipleByBits p a (k / 2) m q s × IsSum p a s s d × IsSumWithBit p a d (k % 2) q r

-- r is k times q. SEC 1 names the sum of k times q, which is this one, as sums of points of a curve are associative; that is
-- not proved here
abbrev pub IsMultiple : ℕ → ℕ → ℕ → Point → Point → Type 0
IsMultiple p a k q r = (m : ℕ) × (k < 2 ^ m) × IsMultipleByBits p a k m q r

-- r is the one point that is k times q
pub record IsTheMultiple (p a k : ℕ) (q r : Point) : Type 0 where
  pub is : IsMultiple p a k q r
  pub one : (s : Point) → IsMultiple p a k q s → s ≡ r

-- r is the one sum of two points
pub record IsTheSum (p a : ℕ) (left right r : Point) : Type 0 where
  pub is : IsSum p a left right r
  pub one : (s : Point) → IsSum p a left right s → s ≡ r
