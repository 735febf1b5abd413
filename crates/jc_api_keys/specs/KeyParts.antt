-- The data of a key of a pair: its parts, one after another. Each is two bytes, how many bytes the part has, 0 where it is not set, and then
-- room for as many as it may have. The size of a key is how many bytes its length in bits takes.
use Rattle.std.specs.Prelude.{ℕ, ◌+◌, ◌-◌, ◌*◌, ◌/◌, ◌==◌, ◌&&◌, ◌||◌, nat_le, Bool, true, false, List, [], ◌∷◌, ◌++◌, Option, Some, None, if◌then◌else◌}
use Rattle.jc_platform.specs.declared.names.PlatformClass.{PlatformClass}
use Rattle.jc_platform.specs.declared.names.PlatformClass.TheVariants as class
use Rattle.jc_api_keys.specs.declared.key_parts.KeyPart.{KeyPart}
use Rattle.jc_api_keys.specs.declared.key_parts.KeyPart.TheVariants.{Modulus, Exponent, P, Q, Pq, Dp1, Dq1, Field, A, B, G, R, K, W, S}
use Rattle.jc_api_keys.specs.declared.key_types.PairKey.{PairKey}
use Rattle.jc_api_keys.specs.declared.key_types.PairKey.TheVariants.{RsaPublic, RsaPrivate, RsaCrtPrivate, EcPublic, EcPrivate}

-- how many bytes the size of a key has at most: RSA keys have 4,096 bits at most
abbrev pub most_size : ℕ
most_size = 512

-- how many bytes the data of a key have at most: those of an RSA key of that length by its primes
abbrev pub most_data : ℕ
most_data = 1290

-- the room of a part of a key of n bytes: a point is a byte and two coordinates, the order of a curve may be longer than its field, a prime of RSA
-- has half of the modulus, and the cofactor is a short
abbrev pub room_of : ℕ → KeyPart → ℕ
room_of n Modulus = n
room_of n Exponent = n
room_of n P = (n + 1) / 2
room_of n Q = (n + 1) / 2
room_of n Pq = (n + 1) / 2
room_of n Dp1 = (n + 1) / 2
room_of n Dq1 = (n + 1) / 2
room_of n Field = n
room_of n A = n
room_of n B = n
room_of n G = 2 * n + 1
room_of n R = n + 1
room_of n K = 2
room_of n W = 2 * n + 1
room_of n S = n + 1

-- how many bytes parts take
unfoldable pub bytes_of_parts : ℕ → List KeyPart → ℕ
bytes_of_parts n [] = 0
bytes_of_parts n (part ∷ rest) = 2 + room_of n part + bytes_of_parts n rest

-- the parts of RSA keys, and the domain parameters of elliptic curves, in the order in which they stand
abbrev pub rsa_parts : List KeyPart
rsa_parts = Modulus ∷ Exponent ∷ []

abbrev pub crt_parts : List KeyPart
crt_parts = P ∷ Q ∷ Pq ∷ Dp1 ∷ Dq1 ∷ []

abbrev pub domain_parts : List KeyPart
domain_parts = Field ∷ A ∷ B ∷ G ∷ R ∷ K ∷ []

-- the parts of a key
abbrev pub parts_of : PairKey → List KeyPart
parts_of RsaPublic = rsa_parts
parts_of RsaPrivate = rsa_parts
parts_of RsaCrtPrivate = crt_parts
parts_of EcPublic = domain_parts ++ (W ∷ [])
parts_of EcPrivate = domain_parts ++ (S ∷ [])

-- how many bytes the data of a key have
abbrev pub data_length : PairKey → ℕ → ℕ
data_length k n = bytes_of_parts n (parts_of k)

-- a part is one of these
abbrev pub is_rsa_part : KeyPart → Bool
is_rsa_part Modulus = true
is_rsa_part Exponent = true
is_rsa_part _ = false

abbrev pub is_crt_part : KeyPart → Bool
is_crt_part P = true
is_crt_part Q = true
is_crt_part Pq = true
is_crt_part Dp1 = true
is_crt_part Dq1 = true
is_crt_part _ = false

abbrev pub is_domain_part : KeyPart → Bool
is_domain_part Field = true
is_domain_part A = true
is_domain_part B = true
is_domain_part G = true
is_domain_part R = true
is_domain_part K = true
is_domain_part _ = false

abbrev pub is_public_point : KeyPart → Bool
is_public_point W = true
is_public_point _ = false

abbrev pub is_private_number : KeyPart → Bool
is_private_number S = true
is_private_number _ = false

-- a key has a part
abbrev pub has_part : PairKey → KeyPart → Bool
has_part RsaPublic part = is_rsa_part part
has_part RsaPrivate part = is_rsa_part part
has_part RsaCrtPrivate part = is_crt_part part
has_part EcPublic part = is_domain_part part || is_public_point part
has_part EcPrivate part = is_domain_part part || is_private_number part

-- the parts that stand before a part
abbrev pub parts_before : KeyPart → List KeyPart
parts_before Modulus = []
parts_before Exponent = Modulus ∷ []
parts_before P = []
parts_before Q = P ∷ []
parts_before Pq = P ∷ Q ∷ []
parts_before Dp1 = P ∷ Q ∷ Pq ∷ []
parts_before Dq1 = P ∷ Q ∷ Pq ∷ Dp1 ∷ []
parts_before Field = []
parts_before A = Field ∷ []
parts_before B = Field ∷ A ∷ []
parts_before G = Field ∷ A ∷ B ∷ []
parts_before R = Field ∷ A ∷ B ∷ G ∷ []
parts_before K = Field ∷ A ∷ B ∷ G ∷ R ∷ []
parts_before W = domain_parts
parts_before S = domain_parts

-- where a part begins
abbrev pub place_of : ℕ → KeyPart → ℕ
place_of n part = bytes_of_parts n (parts_before part)

-- the size of a key whose data have this many bytes, where they are those of a key
abbrev pub size_from : PairKey → ℕ → ℕ
size_from RsaPublic long = (long - 4) / 2
size_from RsaPrivate long = (long - 4) / 2
size_from RsaCrtPrivate long = (long / 5 - 2) * 2
size_from EcPublic long = (long - 19) / 8
size_from EcPrivate long = (long - 19) / 7

abbrev pub size_if : PairKey → ℕ → ℕ → Option ℕ
size_if k long n = if nat_le n most_size && data_length k n == long then Some n else None

abbrev pub size_of : PairKey → ℕ → Option ℕ
size_of k long = size_if k long (size_from k long)

-- the class of keys that have a part
abbrev pub holder_of : KeyPart → PlatformClass
holder_of Modulus = class.RsaKeyObject
holder_of Exponent = class.RsaKeyObject
holder_of P = class.RsaPrivateCrtKeyObject
holder_of Q = class.RsaPrivateCrtKeyObject
holder_of Pq = class.RsaPrivateCrtKeyObject
holder_of Dp1 = class.RsaPrivateCrtKeyObject
holder_of Dq1 = class.RsaPrivateCrtKeyObject
holder_of Field = class.EcKeyObject
holder_of A = class.EcKeyObject
holder_of B = class.EcKeyObject
holder_of G = class.EcKeyObject
holder_of R = class.EcKeyObject
holder_of K = class.EcKeyObject
holder_of W = class.EcPublicKeyObject
holder_of S = class.EcPrivateKeyObject
