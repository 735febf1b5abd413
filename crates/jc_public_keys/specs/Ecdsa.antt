-- ECDSA (SEC 1, 4.1) as functions of numbers.
use Rattle.std.specs.Prelude.{ℕ, ◌+◌, ◌*◌, ◌%◌, ◌==◌, ◌&&◌, nat_lt, Bool, false, Option, Some, None, if◌then◌else◌, nat_le, List, [], ◌∷◌, ◌++◌, drop}
use Rattle.std.specs.Prelude.{length, slice_index, take, option_and_then, option_map}
use Rattle.jc_curves.specs.Curves.{CurveNumbers, octets}
use Rattle.jc_curves.specs.Points.{Point, Infinity, At}
use Rattle.jc_public_keys.specs.CurveSums.{inverse_of, multiple_of, sum_of}
use Rattle.std.specs.Str.{bytes_eq}
use Rattle.jc_numbers.specs.Numbers.{number_of_bytes}
use Rattle.jc_public_keys.specs.Rsa.{bytes_of_number}
use Rattle.jc_curves.specs.Calls.{digest_number}
use Rattle.jc_public_keys.specs.CurveBytes.{CurveBytes, curve_numbers, point_in}
use Rattle.jc_public_keys.specs.RandomNumbers.{first_try, random_bits}

-- r and s
pub record Numbers : Type 0 where
  pub r : ℕ
  pub s : ℕ

-- from 1 to n - 1
abbrev pub is_in_order : CurveNumbers → ℕ → Bool
is_in_order c k = nat_lt 0 k && nat_lt k c.n

-- ---- signing

-- s, unless it is 0
abbrev pub with_s : ℕ → ℕ → Option Numbers
with_s r s = if s == 0 then None else Some (record { r = r; s = s })

-- by the inverse of k
abbrev pub with_inverse : CurveNumbers → ℕ → ℕ → ℕ → Option ℕ → Option Numbers
with_inverse c d e r None = None
with_inverse c d e r (Some inverse) = with_s r ((inverse * (e + r * d)) % c.n)

-- by r, unless it is 0
abbrev pub with_r : CurveNumbers → ℕ → ℕ → ℕ → ℕ → Option Numbers
with_r c d e k r = if r == 0 then None else with_inverse c d e r (inverse_of c.n k)

-- by k G
abbrev pub with_multiple : CurveNumbers → ℕ → ℕ → ℕ → Option Point → Option Numbers
with_multiple c d e k None = None
with_multiple c d e k (Some Infinity) = None
with_multiple c d e k (Some (At x y)) = with_r c d e k (x % c.n)

-- the signature of e under the private key d by k, where there is one
unfoldable pub signed : CurveNumbers → ℕ → ℕ → ℕ → Option Numbers
signed c d e k =
    if is_in_order c d && is_in_order c k then with_multiple c d e k (multiple_of c.p c.a k (At c.x c.y)) else None

-- ---- verification

-- the x of a sum is r
abbrev pub has_x : CurveNumbers → ℕ → Option Point → Bool
has_x c r None = false
has_x c r (Some Infinity) = false
has_x c r (Some (At x y)) = r == x % c.n

abbrev pub sum_has_x : CurveNumbers → ℕ → Option Point → Option Point → Bool
sum_has_x c r None right = false
sum_has_x c r (Some left) None = false
sum_has_x c r (Some left) (Some right) = has_x c r (sum_of c.p c.a left right)

-- by the inverse of s
abbrev pub verified_by : CurveNumbers → Point → ℕ → ℕ → Option ℕ → Bool
verified_by c q e r None = false
verified_by c q e r (Some inverse) =
    sum_has_x c r (multiple_of c.p c.a ((e * inverse) % c.n) (At c.x c.y)) (multiple_of c.p c.a ((r * inverse) % c.n) q)

-- r and s are a signature of e under the public key q
unfoldable pub is_verified : CurveNumbers → Point → ℕ → ℕ → ℕ → Bool
is_verified c q e r s = (is_in_order c r && is_in_order c s) && verified_by c q e r (inverse_of c.n s)

-- ---- signatures in DER (X.690), as functions: a SEQUENCE of two INTEGERs that are not negative, each of at most 67 bytes

-- bytes without the zeros before them
unfoldable pub significant : List ℕ → List ℕ
significant [] = []
significant (x ∷ xs) = if x == 0 then significant xs else x ∷ xs

-- with a zero before them where there are none, or the highest bit is 1
abbrev pub not_negative : List ℕ → List ℕ
not_negative [] = 0 ∷ []
not_negative (x ∷ xs) = if nat_le 128 x then 0 ∷ x ∷ xs else x ∷ xs

-- the contents of an INTEGER: as few bytes as can be
unfoldable pub integer_contents : ℕ → List ℕ
integer_contents n = not_negative (significant (bytes_of_number 67 n))

abbrev pub integer_of : List ℕ → List ℕ
integer_of contents = 0x02 ∷ length contents ∷ contents

-- the length of a SEQUENCE is one byte below 128, and 81 before one that is not
abbrev pub sequence_of : List ℕ → List ℕ
sequence_of contents = if nat_lt (length contents) 128 then 0x30 ∷ length contents ∷ contents else 0x30 ∷ 0x81 ∷ length contents ∷ contents

-- the encoding of r and s
unfoldable pub der_of : ℕ → ℕ → List ℕ
der_of r s = sequence_of (integer_of (integer_contents r) ++ integer_of (integer_contents s))

-- ---- decoding: where an encoding begins, r and s stand at these places

abbrev pub contents_start : List ℕ → ℕ
contents_start bytes = if slice_index bytes 1 == 0x81 then 3 else 2

abbrev pub first_size : List ℕ → ℕ
first_size contents = slice_index contents 1

abbrev pub first_number : List ℕ → ℕ
first_number contents = number_of_bytes (take (first_size contents) (drop 2 contents))

abbrev pub second_number : List ℕ → ℕ
second_number contents = number_of_bytes (drop (first_size contents + 4) contents)

-- its contents are of the number, and have no more than 67 bytes
abbrev pub is_short : ℕ → Bool
is_short n = nat_le (length (integer_contents n)) 67 && number_of_bytes (integer_contents n) == n

abbrev pub der_if : List ℕ → ℕ → ℕ → Option Numbers
der_if bytes r s = if (is_short r && is_short s) && bytes_eq bytes (der_of r s) then Some (record { r = r; s = s }) else None

-- the numbers that bytes encode
unfoldable pub der_numbers : List ℕ → Option Numbers
der_numbers bytes = der_if bytes (first_number (drop (contents_start bytes) bytes)) (second_number (drop (contents_start bytes) bytes))

-- ---- ECDSA under keys by their bytes: signatures of a message's digest, in DER

-- ---- signing

-- the encoding of the signature of a digest by a number k
abbrev pub encoded : Numbers → List ℕ
encoded v = der_of v.r v.s

unfoldable pub signed_by : CurveNumbers → ℕ → List ℕ → ℕ → Option (List ℕ)
signed_by c d digest k = option_map encoded (signed c d (digest_number c.n_bits digest) k)

-- number t that a signature is made with: random bits of the seed and the digest, as many as n has
abbrev pub signed_at : CurveNumbers → ℕ → List ℕ → List ℕ → ℕ → Option (List ℕ)
signed_at c d digest seed t = signed_by c d digest (number_of_bytes (random_bits c.n_bits seed digest t))

-- the signature of a digest under a private key, in DER, where there is one
unfoldable pub ecdsa_signature : CurveBytes → List ℕ → List ℕ → List ℕ → Option (List ℕ)
ecdsa_signature c private digest seed =
    option_and_then (λ curve. first_try (signed_at curve (number_of_bytes private) digest seed)) (curve_numbers c)

-- ---- verification

abbrev pub verified_at : CurveNumbers → List ℕ → Option Point → Numbers → Bool
verified_at c digest None v = false
verified_at c digest (Some q) v = is_verified c q (digest_number c.n_bits digest) v.r v.s

abbrev pub verified_numbers : CurveNumbers → List ℕ → List ℕ → Option Numbers → Bool
verified_numbers c public digest None = false
verified_numbers c public digest (Some v) = verified_at c digest (point_in c.p c.a c.b (octets c.p_bits) public) v

unfoldable pub verified_on : List ℕ → List ℕ → List ℕ → CurveNumbers → Bool
verified_on public digest signature c = verified_numbers c public digest (der_numbers signature)

abbrev pub on_curve : (CurveNumbers → Bool) → Option CurveNumbers → Bool
on_curve f None = false
on_curve f (Some c) = f c

-- bytes are a signature of a digest under a public key
unfoldable pub is_ecdsa_signature : CurveBytes → List ℕ → List ℕ → List ℕ → Bool
is_ecdsa_signature c public digest signature = on_curve (verified_on public digest signature) (curve_numbers c)
