-- Shared secrets (SEC 1, 3.3) as functions of the bytes that describe a curve, of a private key and of another's public key: none where the bytes
-- describe no curve, where the private key is not from 1 to n - 1, where the public key is no point of the curve, where a denominator has no
-- inverse, and where the multiple is the point at infinity.
use Rattle.std.specs.Prelude.{ℕ, ◌*◌, ◌&&◌, nat_lt, List, length, Option, None, option_and_then, if◌then◌else◌}
use Rattle.jc_numbers.specs.Numbers.{number_of_bytes}
use Rattle.jc_curves.specs.Points.{Point}
use Rattle.jc_public_keys.specs.CurveBytes.{CurveBytes, a_of, b_of, is_curve, n_of, p_of, point_in, x_bytes}
use Rattle.jc_public_keys.specs.CurveSums.{multiple_of}

-- the multiple of a public key by a private key d and a factor
abbrev pub shared_point : CurveBytes → ℕ → ℕ → List ℕ → Option Point
shared_point c d factor public = if is_curve c && (nat_lt 0 d && nat_lt d (n_of c))
    then option_and_then (multiple_of (p_of c) (a_of c) (d * factor)) (point_in (p_of c) (a_of c) (b_of c) (length c.field) public) else None

-- its x
unfoldable pub secret_x : CurveBytes → List ℕ → ℕ → List ℕ → Option (List ℕ)
secret_x c private factor public = option_and_then (x_bytes (length c.field)) (shared_point c (number_of_bytes private) factor public)
