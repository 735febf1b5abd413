-- Sums and multiples of points as functions: none where a denominator has no inverse.
use Rattle.std.specs.Prelude.{ℕ, zero, suc, ◌+◌, ◌-◌, ◌*◌, ◌/◌, ◌%◌, ◌==◌, ◌&&◌, if◌then◌else◌, Option, Some, None, option_and_then, option_map}
use Rattle.jc_curves.specs.Points.{Point, Infinity, At}

-- an inverse of x modulo n below k, the largest
abbrev pub inverse_below : ℕ → ℕ → ℕ → Option ℕ
inverse_below n x zero = None
inverse_below n x (suc k) = if (x * k) % n == 1 then Some k else inverse_below n x k

-- the inverse of x modulo n, if it has one
abbrev pub inverse_of : ℕ → ℕ → Option ℕ
inverse_of n x = inverse_below n x n

-- y - x modulo p
abbrev pub difference : ℕ → ℕ → ℕ → ℕ
difference p y x = y + (p - 1) * x

-- the slope of the line through two points, and of the tangent in a point
abbrev pub chord_slope : ℕ → ℕ → ℕ → ℕ → ℕ → Option ℕ
chord_slope p x1 y1 x2 y2 = option_map (λ i. difference p y2 y1 * i) (inverse_of p (x2 + p - x1))

abbrev pub tangent_slope : ℕ → ℕ → ℕ → ℕ → Option ℕ
tangent_slope p a x y = option_map (λ i. (3 * (x * x) + a) * i) (inverse_of p (2 * y))

abbrev pub slope_of : ℕ → ℕ → ℕ → ℕ → ℕ → ℕ → Option ℕ
slope_of p a x1 y1 x2 y2 = if x1 == x2 && y1 == y2 then tangent_slope p a x1 y1 else chord_slope p x1 y1 x2 y2

-- the sum of two points by the slope l
abbrev pub third_x : ℕ → ℕ → ℕ → ℕ → ℕ
third_x p x1 x2 l = difference p (l * l) (x1 + x2) % p

abbrev pub third_of : ℕ → ℕ → ℕ → ℕ → ℕ → Point
third_of p x1 y1 x2 l = At (third_x p x1 x2 l) (difference p (l * x1) (y1 + l * third_x p x1 x2 l) % p)

-- the sum of two points
abbrev pub sum_of : ℕ → ℕ → Point → Point → Option Point
sum_of p a Infinity q = Some q
sum_of p a (At x1 y1) Infinity = Some (At x1 y1)
sum_of p a (At x1 y1) (At x2 y2) = if x1 == x2 && (y1 + y2) % p == 0 then Some Infinity else option_map (third_of p x1 y1 x2) (slope_of p a x1 y1 x2 y2)

-- d, and q added where the bit is 1
abbrev pub sum_with_bit : ℕ → ℕ → Point → ℕ → Point → Option Point
sum_with_bit p a d zero q = Some d
sum_with_bit p a d (suc bit) q = sum_of p a d q

-- s doubled, and q added where the bit is 1
abbrev pub step_of : ℕ → ℕ → ℕ → Point → Point → Option Point
step_of p a bit q s = option_and_then (λ d. sum_with_bit p a d bit q) (sum_of p a s s)

-- the multiple of q by the lowest m bits of k, by the binary method
abbrev pub multiple_by_bits : ℕ → ℕ → ℕ → ℕ → Point → Option Point
multiple_by_bits p a k zero q = Some Infinity
multiple_by_bits p a k (suc m) q = option_and_then (step_of p a (k % 2) q) (multiple_by_bits p a (k / 2) m q)

-- k times q. It has no more than k bits
abbrev pub multiple_of : ℕ → ℕ → ℕ → Point → Option Point
multiple_of p a k q = multiple_by_bits p a k k q
