-- Keys on a curve, by bytes: the public key of a private one (SEC 1, 3.2.1), and key pairs of random numbers.
use Rattle.std.specs.Prelude.{ℕ, List, [], ◌∷◌, ◌++◌, length, Option, Some, None, option_and_then, option_map, if◌then◌else◌}
use Rattle.jc_numbers.specs.Numbers.{number_of_bytes}
use Rattle.jc_curves.specs.Curves.{CurveNumbers, octets}
use Rattle.jc_curves.specs.Points.{Point, Infinity, At}
use Rattle.jc_public_keys.specs.CurveBytes.{CurveBytes, curve_numbers}
use Rattle.jc_public_keys.specs.CurveSums.{multiple_of}
use Rattle.jc_public_keys.specs.Ecdsa.{is_in_order}
use Rattle.jc_public_keys.specs.RandomNumbers.{first_try, random_bits}
use Rattle.jc_public_keys.specs.Rsa.{bytes_of_number}

-- ---- public keys

-- a point uncompressed: 04, x and y
abbrev pub point_bytes : ℕ → Point → Option (List ℕ)
point_bytes size Infinity = None
point_bytes size (At x y) = Some (0x04 ∷ bytes_of_number size x ++ bytes_of_number size y)

-- the public key of the private key d, from 1 to n - 1
unfoldable pub public_on : CurveNumbers → ℕ → Option (List ℕ)
public_on c d = if is_in_order c d then option_and_then (point_bytes (octets c.p_bits)) (multiple_of c.p c.a d (At c.x c.y)) else None

-- ---- key pairs

-- a private key, in as many bytes as n is given by, and its public key
pub record CurveKeyPair : Type 0 where
  pub private : List ℕ
  pub public : List ℕ

-- the key pair of a private key d
abbrev pub pair_of : ℕ → CurveNumbers → ℕ → Option CurveKeyPair
pair_of size c d = option_map (λ q. record { private = bytes_of_number size d; public = q }) (public_on c d)

-- of number t of a seed
abbrev pub pair_at : ℕ → CurveNumbers → List ℕ → ℕ → Option CurveKeyPair
pair_at size c seed t = pair_of size c (number_of_bytes (random_bits c.n_bits seed [] t))

-- the key pair of a seed on a curve
unfoldable pub key_pair_of : CurveBytes → List ℕ → Option CurveKeyPair
key_pair_of c seed = option_and_then (λ curve. first_try (pair_at (length c.order) curve seed)) (curve_numbers c)
