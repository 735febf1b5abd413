-- Types of keys: what their keys are, what clears them, and how long they are (API specification, KeyBuilder).
use Rattle.std.specs.Ordering.{int_eq}
use Rattle.std.specs.Option.{option_and_then}
use Rattle.std.specs.Prelude.{ℕ, ℤ, pos, ◌*◌, ◌/◌, ◌%◌, ◌==◌, ◌&&◌, nat_le, nat_lt, Option, Some, None, if◌then◌else◌}
use Rattle.jc_transient.specs.declared.cell.ClearEvent.{ClearEvent}
use Rattle.jc_transient.specs.declared.cell.ClearEvent.TheVariants.{Reset, Deselect}
use Rattle.jc_platform.specs.declared.names.PlatformClass.{PlatformClass}
use Rattle.jc_platform.specs.declared.names.PlatformClass.TheVariants as class
use Rattle.jc_world.specs.Numbers.{not_negative}
use Rattle.jc_api_keys.specs.declared.key_types.KeyAlgorithm.{KeyAlgorithm}
use Rattle.jc_api_keys.specs.declared.key_types.KeyAlgorithm.TheVariants.{Aes, Des, Hmac}
use Rattle.jc_api_keys.specs.declared.key_types.PairKey.{PairKey}
use Rattle.jc_api_keys.specs.declared.key_types.PairKey.TheVariants.{RsaPublic, RsaPrivate, RsaCrtPrivate, EcPublic, EcPrivate}
use Rattle.jc_api_keys.specs.declared.key_types.KeyKind.{KeyKind}
use Rattle.jc_api_keys.specs.declared.key_types.KeyKind.TheVariants.{Secret, OfPair}
use Rattle.jc_api_keys.specs.declared.key_types.KeyType.{KeyType}

-- ---- types

-- secret keys for an algorithm, cleared by an event, or persistent
abbrev pub keys_for : KeyAlgorithm → Option ClearEvent → Option KeyType
keys_for a event = Some (record { kind = Secret a; event = event })

-- keys of pairs, cleared by an event, or persistent
abbrev pub pair_keys_for : PairKey → Option ClearEvent → Option KeyType
pair_keys_for k event = Some (record { kind = OfPair k; event = event })

-- the type of secret keys of a number: DES_TRANSIENT_RESET, DES_TRANSIENT_DESELECT, DES, the same three of AES, and of HMAC
unfoldable pub secret_type_named : ℤ → Option KeyType
secret_type_named v =
    if int_eq v (pos 1) then keys_for Des (Some Reset) else if int_eq v (pos 2) then keys_for Des (Some Deselect) else if int_eq v (pos 3) then keys_for Des None
    else if int_eq v (pos 13) then keys_for Aes (Some Reset) else if int_eq v (pos 14) then keys_for Aes (Some Deselect) else if int_eq v (pos 15) then keys_for Aes None
    else if int_eq v (pos 19) then keys_for Hmac (Some Reset) else if int_eq v (pos 20) then keys_for Hmac (Some Deselect) else if int_eq v (pos 21) then keys_for Hmac None
    else None

-- the type of keys of pairs of a number: RSA_PUBLIC, RSA_PRIVATE, RSA_CRT_PRIVATE, EC_FP_PUBLIC, EC_FP_PRIVATE, and of private keys those that are
-- cleared, at a reset and at a deselection: RSA_PRIVATE, RSA_CRT_PRIVATE, EC_FP_PRIVATE
unfoldable pub pair_type_named : ℤ → Option KeyType
pair_type_named v =
    if int_eq v (pos 4) then pair_keys_for RsaPublic None else if int_eq v (pos 5) then pair_keys_for RsaPrivate None
    else if int_eq v (pos 6) then pair_keys_for RsaCrtPrivate None
    else if int_eq v (pos 11) then pair_keys_for EcPublic None else if int_eq v (pos 12) then pair_keys_for EcPrivate None
    else if int_eq v (pos 22) then pair_keys_for RsaPrivate (Some Reset) else if int_eq v (pos 23) then pair_keys_for RsaPrivate (Some Deselect)
    else if int_eq v (pos 24) then pair_keys_for RsaCrtPrivate (Some Reset) else if int_eq v (pos 25) then pair_keys_for RsaCrtPrivate (Some Deselect)
    else if int_eq v (pos 30) then pair_keys_for EcPrivate (Some Reset) else if int_eq v (pos 31) then pair_keys_for EcPrivate (Some Deselect)
    else None

-- the type of a number
abbrev pub first_type : Option KeyType → Option KeyType → Option KeyType
first_type (Some t) other = Some t
first_type None other = other

unfoldable pub key_type_named : ℤ → Option KeyType
key_type_named v = first_type (secret_type_named v) (pair_type_named v)

-- what the keys of a type are, if they are of a pair
abbrev pub pair_kind : KeyKind → Option PairKey
pair_kind (Secret a) = None
pair_kind (OfPair k) = Some k

abbrev pub pair_key_named : ℤ → Option PairKey
pair_key_named v = option_and_then (λ t. pair_kind t.kind) (key_type_named v)

-- the class of its keys
abbrev pub secret_class : KeyAlgorithm → PlatformClass
secret_class Des = class.DesKeyObject
secret_class Aes = class.AesKeyObject
secret_class Hmac = class.HmacKeyObject

abbrev pub pair_class : PairKey → PlatformClass
pair_class RsaPublic = class.RsaPublicKeyObject
pair_class RsaPrivate = class.RsaPrivateKeyObject
pair_class RsaCrtPrivate = class.RsaPrivateCrtKeyObject
pair_class EcPublic = class.EcPublicKeyObject
pair_class EcPrivate = class.EcPrivateKeyObject

abbrev pub key_class : KeyKind → PlatformClass
key_class (Secret a) = secret_class a
key_class (OfPair k) = pair_class k

-- ---- lengths

-- a length of HMAC keys: 64 and 128 are blocks of a hash function in bytes, and what is longer, up to 1,024, is whole bytes in bits
abbrev pub hmac_capacity : ℕ → Option ℕ
hmac_capacity n =
    if n == 64 then Some 64 else if n == 128 then Some 128 else if nat_lt 128 n && nat_le n 1024 && n % 8 == 0 then Some (n / 8) else None

-- how many bytes a secret key of a length has, an HMAC key at most: DES and AES keys have lengths of their own, in bits
abbrev pub capacity_named : KeyAlgorithm → ℤ → Option ℕ
capacity_named Des v = if int_eq v (pos 64) then Some 8 else if int_eq v (pos 128) then Some 16 else if int_eq v (pos 192) then Some 24 else None
capacity_named Aes v = if int_eq v (pos 128) then Some 16 else if int_eq v (pos 192) then Some 24 else if int_eq v (pos 256) then Some 32 else None
capacity_named Hmac v = option_and_then hmac_capacity (not_negative v)

-- how many bytes the size of an RSA key has, by its length in bits
abbrev pub rsa_size_named : ℤ → Option ℕ
rsa_size_named v =
    if int_eq v (pos 512) then Some 64 else if int_eq v (pos 736) then Some 92 else if int_eq v (pos 768) then Some 96 else if int_eq v (pos 896) then Some 112
    else if int_eq v (pos 1024) then Some 128 else if int_eq v (pos 1280) then Some 160 else if int_eq v (pos 1536) then Some 192
    else if int_eq v (pos 1984) then Some 248 else if int_eq v (pos 2048) then Some 256 else if int_eq v (pos 3072) then Some 384
    else if int_eq v (pos 4096) then Some 512 else None

-- and of a key on an elliptic curve, rounded up
abbrev pub ec_size_named : ℤ → Option ℕ
ec_size_named v =
    if int_eq v (pos 112) then Some 14 else if int_eq v (pos 128) then Some 16 else if int_eq v (pos 160) then Some 20 else if int_eq v (pos 192) then Some 24
    else if int_eq v (pos 224) then Some 28 else if int_eq v (pos 256) then Some 32 else if int_eq v (pos 384) then Some 48
    else if int_eq v (pos 521) then Some 66 else None

-- of a key of a pair
abbrev pub size_named : PairKey → ℤ → Option ℕ
size_named RsaPublic v = rsa_size_named v
size_named RsaPrivate v = rsa_size_named v
size_named RsaCrtPrivate v = rsa_size_named v
size_named EcPublic v = ec_size_named v
size_named EcPrivate v = ec_size_named v

-- the length in bits of a key of a pair whose size has this many bytes: 66 only one of 521 has
abbrev pub bits_of : ℕ → ℕ
bits_of n = if n == 66 then 521 else 8 * n
