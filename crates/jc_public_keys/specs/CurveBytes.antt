-- Curves and their points by bytes, as functions.
use Rattle.std.specs.Prelude.{◌≡◌, ℕ, zero, suc, ◌+◌, ◌*◌, ◌/◌, ◌%◌, ◌<◌, ◌==◌, ◌&&◌, nat_lt, not, Bool, List, length, take, drop, slice_index, Option, Some, None, if◌then◌else◌}
use Rattle.jc_numbers.specs.Numbers.{IsBitLength, number_of_bytes}
use Rattle.jc_curves.specs.Curves.{CurveNumbers, IsDescribedBy, octets}
use Rattle.jc_curves.specs.Points.{Point, Infinity, At}
use Rattle.jc_curves.specs.declared.curves.Parameters.{Parameters}
use Rattle.jc_public_keys.specs.Rsa.{bytes_of_number}

-- ---- points as bytes

-- x and y are the coordinates of a point of the curve
abbrev pub is_on_curve : ℕ → ℕ → ℕ → ℕ → ℕ → Bool
is_on_curve p a b x y = nat_lt x p && (nat_lt y p && (y * y) % p == (x * x * x + a * x + b) % p)

-- the coordinates in an uncompressed point
abbrev pub x_in : ℕ → List ℕ → ℕ
x_in size bytes = number_of_bytes (take size (drop 1 bytes))

abbrev pub y_in : ℕ → List ℕ → ℕ
y_in size bytes = number_of_bytes (drop (1 + size) bytes)

-- bytes are an uncompressed point of the curve (SEC 1, 2.3.4)
abbrev pub is_point : ℕ → ℕ → ℕ → ℕ → List ℕ → Bool
is_point p a b size bytes = length bytes == 1 + 2 * size && (slice_index bytes 0 == 4 && is_on_curve p a b (x_in size bytes) (y_in size bytes))

abbrev pub point_in : ℕ → ℕ → ℕ → ℕ → List ℕ → Option Point
point_in p a b size bytes = if is_point p a b size bytes then Some (At (x_in size bytes) (y_in size bytes)) else None

-- the bytes of x of a point
abbrev pub x_bytes : ℕ → Point → Option (List ℕ)
x_bytes size Infinity = None
x_bytes size (At x y) = Some (bytes_of_number size x)

-- ---- curves

-- the bytes that describe a curve: p, a, b, the point G and its order n
pub record CurveBytes : Type 0 where
  pub field : List ℕ
  pub a : List ℕ
  pub b : List ℕ
  pub generator : List ℕ
  pub order : List ℕ

abbrev pub bytes_of : Parameters → CurveBytes
bytes_of c = record { field = c.field.now; a = c.a.now; b = c.b.now; generator = c.generator.now; order = c.order.now }

-- the numbers that they are
abbrev pub p_of : CurveBytes → ℕ
p_of c = number_of_bytes c.field

abbrev pub a_of : CurveBytes → ℕ
a_of c = number_of_bytes c.a

abbrev pub b_of : CurveBytes → ℕ
b_of c = number_of_bytes c.b

abbrev pub n_of : CurveBytes → ℕ
n_of c = number_of_bytes c.order

-- they describe a curve whose p has no byte of 0 before it: p is odd and above 3, a and b are below it, G is a point of the curve, and n
-- is odd and above 1
abbrev pub is_curve : CurveBytes → Bool
is_curve c = not (slice_index c.field 0 == 0) && ((p_of c % 2 == 1 && nat_lt 3 (p_of c)) && ((nat_lt (a_of c) (p_of c) && nat_lt (b_of c) (p_of c))
    && (is_point (p_of c) (a_of c) (b_of c) (length c.field) c.generator && (n_of c % 2 == 1 && nat_lt 1 (n_of c)))))

-- the curve that they describe, with as many bytes for a coordinate as p is given by
pub record IsCurveOf (parameters : Parameters) (c : CurveNumbers) : Type 0 where
  pub described : IsDescribedBy parameters c
  pub size : octets c.p_bits ≡ length parameters.field.now

-- ---- their numbers

-- how many bits a number has, counted no further than a bound
unfoldable pub bit_count : ℕ → ℕ → ℕ
bit_count zero n = 0
bit_count (suc bound) n = if n == 0 then 0 else suc (bit_count bound (n / 2))

abbrev pub bits_of : ℕ → ℕ
bits_of n = bit_count n n

-- the numbers of a curve. Signatures and keys do not depend on its cofactor, which is 1 here
abbrev pub numbers_of : CurveBytes → CurveNumbers
numbers_of c = record {
  p = p_of c;
  a = a_of c;
  b = b_of c;
  x = x_in (length c.field) c.generator;
  y = y_in (length c.field) c.generator;
  n = n_of c;
  h = 1;
  p_bits = bits_of (p_of c);
  n_bits = bits_of (n_of c);
}

unfoldable pub curve_numbers : CurveBytes → Option CurveNumbers
curve_numbers c = if is_curve c then Some (numbers_of c) else None

-- what these numbers are: a coordinate has as many bytes as p is given by
pub record AreNumbersOf (bytes : CurveBytes) (c : CurveNumbers) : Type 0 where
  pub field : 1 < c.p
  pub size : octets c.p_bits ≡ length bytes.field
  pub above : 1 < c.n
  pub order : c.n ≡ n_of bytes
  pub counted : IsBitLength c.n c.n_bits
  pub bits : c.n_bits ≡ bits_of c.n
