-- Signatures of a message, by its digest and first bytes, under a key of a pair, by what its parts are.
use Rattle.std.specs.Int.{to_be_bytes, w16}
use Rattle.std.specs.Prelude.{ℕ, ◌≡◌, ◌≤◌, ◌==◌, Bool, false, List, ◌++◌, length, Option, Some, None, if◌then◌else◌}
use Rattle.jc_digests.specs.declared.kept.HashAlgorithm.{HashAlgorithm}
use Rattle.jc_memory.specs.State.{MemoryState}
use Rattle.jc_linker.specs.Values.{Packages}
use Rattle.jc_world.specs.Arrays.{bytes_in}
use Rattle.jc_world.specs.declared.arrays.Stretch.{Stretch}
use Rattle.jc_api.specs.Changing.{IsState}
use Rattle.jc_public_keys.specs.RsaRecovery.{is_recovery_encoding, recovery_encoding}
use Rattle.jc_public_keys.specs.RsaSignatures.{is_signature_encoding, least_modulus, signature_encoding}
use Rattle.jc_public_keys.specs.declared.rsa_signatures.SignaturePadding.{SignaturePadding}
use Rattle.jc_api_keys.specs.DigestStates.{IsRunning}
use Rattle.jc_api_ciphers.specs.Signature.PairAlgorithms.{hash_of, kept_shorts}
use Rattle.jc_api_ciphers.specs.Signature.Pair.Ecdsa.{ecdsa_of, is_ecdsa_of}
use Rattle.jc_api_ciphers.specs.Signature.Pair.Parts.{AreEcParts, ArePrimes, AreRsaParts, crt_power, power}
use Rattle.jc_api_ciphers.specs.declared.signature.pair.RunningPair.{RunningPair}
use Rattle.jc_api_ciphers.specs.declared.signature.pair.parts.Parts.{Parts}
use Rattle.jc_api_ciphers.specs.declared.signature.pair.parts.Parts.TheVariants.{Ec, Primes, Rsa}
use Rattle.jc_api_ciphers.specs.declared.signature.pair.parts.RsaParts.{RsaParts}
use Rattle.jc_api_ciphers.specs.declared.signature.pair_algorithms.PairSignature.{PairSignature}
use Rattle.jc_api_ciphers.specs.declared.signature.pair_algorithms.PairSignature.TheVariants as signature

-- the parts of a key are there
abbrev pub AreParts : MemoryState → Parts → Type 0
AreParts m (Rsa k) = AreRsaParts m k
AreParts m (Primes k) = ArePrimes m k
AreParts m (Ec k) = AreEcParts m k

-- the modulus of a key, where it is a part, has as many bytes as its size
abbrev pub HasSize : ℕ → Parts → Type 0
HasSize size (Rsa k) = k.modulus.count ≡ size
HasSize size (Primes k) = Unit {0}
HasSize size (Ec k) = Unit {0}

-- keys of this size are long enough
abbrev pub IsLongEnough : PairSignature → ℕ → Type 0
IsLongEnough (signature.Rsa padding h) size = least_modulus padding h ≤ size
IsLongEnough (signature.Ecdsa h) size = Unit {0}
IsLongEnough signature.Iso9796 size = 22 ≤ size

-- a message under a signature: the cells of its state, and of what is kept of it, and the parts of its key are there
pub record IsRunningPair (m : MemoryState) (own : RunningPair) : Type 0 where
  pub digest : IsRunning m own.digest
  pub hash : own.digest.algorithm ≡ hash_of own.algorithm
  pub kept : IsState m own.kept
  pub all_kept : own.kept.count ≡ kept_shorts own.algorithm
  pub parts : AreParts m own.parts
  pub size : HasSize own.size own.parts
  pub long : IsLongEnough own.algorithm own.size
  pub few : own.size ≤ 512

-- random bytes come from the platform table and from the key object
abbrev pub seed_of : Packages → ℕ → List ℕ
seed_of p key = p.platform.random ++ to_be_bytes w16 key

-- ---- RSA

-- the power of a representative under a key, as many bytes
abbrev pub key_power : MemoryState → Parts → List ℕ → Option (List ℕ)
key_power m (Rsa k) em = power m k em
key_power m (Primes k) em = crt_power m k em (length em)
key_power m (Ec k) em = None

-- the power of elements under a public key whose modulus has as many bytes
abbrev pub power_under : MemoryState → Stretch → RsaParts → Option (List ℕ)
power_under m given k = if given.count == k.modulus.count then power m k (bytes_in m given) else None

abbrev pub power_by_parts : MemoryState → Stretch → Parts → Option (List ℕ)
power_by_parts m given (Rsa k) = power_under m given k
power_by_parts m given (Primes k) = None
power_by_parts m given (Ec k) = None

-- elements are a signature under a public key: their power encodes the digest
abbrev pub encodes : SignaturePadding → HashAlgorithm → List ℕ → Option (List ℕ) → Bool
encodes padding h digest None = false
encodes padding h digest (Some em) = is_signature_encoding padding h digest em

abbrev pub is_rsa_signature : MemoryState → SignaturePadding → HashAlgorithm → List ℕ → Stretch → Parts → Bool
is_rsa_signature m padding h digest given parts = encodes padding h digest (power_by_parts m given parts)

-- and by ISO/IEC 9796-2: their power is the encoding of the first bytes of a message and its digest
abbrev pub recovers : List ℕ → List ℕ → Option (List ℕ) → Bool
recovers first digest None = false
recovers first digest (Some em) = is_recovery_encoding first digest em

abbrev pub is_iso_signature : MemoryState → List ℕ → List ℕ → Stretch → Parts → Bool
is_iso_signature m first digest given parts = recovers first digest (power_by_parts m given parts)

-- ---- ECDSA

-- the signature of a digest under a private key; the number that it is made with comes from a seed and the digest
abbrev pub ecdsa_by_parts : MemoryState → List ℕ → List ℕ → Parts → Option (List ℕ)
ecdsa_by_parts m digest seed (Rsa k) = None
ecdsa_by_parts m digest seed (Primes k) = None
ecdsa_by_parts m digest seed (Ec k) = ecdsa_of m k digest seed

-- elements are a signature under a public key
abbrev pub is_ecdsa_by_parts : MemoryState → List ℕ → Stretch → Parts → Bool
is_ecdsa_by_parts m digest given (Rsa k) = false
is_ecdsa_by_parts m digest given (Primes k) = false
is_ecdsa_by_parts m digest given (Ec k) = is_ecdsa_of m k digest given

-- ---- all

-- the signature of the first bytes of a message and its digest; none where the key makes none
abbrev pub signature_by : PairSignature → Packages → MemoryState → RunningPair → List ℕ → List ℕ → Option (List ℕ)
signature_by (signature.Rsa padding h) p m own first digest = key_power m own.parts (signature_encoding padding h digest (seed_of p own.key) own.size)
signature_by (signature.Ecdsa h) p m own first digest = ecdsa_by_parts m digest (seed_of p own.key) own.parts
signature_by signature.Iso9796 p m own first digest = key_power m own.parts (recovery_encoding first digest own.size)

abbrev pub signature_of : Packages → MemoryState → RunningPair → List ℕ → List ℕ → Option (List ℕ)
signature_of p m own first digest = signature_by own.algorithm p m own first digest

-- elements are a signature of them
abbrev pub is_signature_by : PairSignature → MemoryState → RunningPair → List ℕ → List ℕ → Stretch → Bool
is_signature_by (signature.Rsa padding h) m own first digest given = is_rsa_signature m padding h digest given own.parts
is_signature_by (signature.Ecdsa h) m own first digest given = is_ecdsa_by_parts m digest given own.parts
is_signature_by signature.Iso9796 m own first digest given = is_iso_signature m first digest given own.parts

abbrev pub is_signature_of : MemoryState → RunningPair → List ℕ → List ℕ → Stretch → Bool
is_signature_of m own first digest given = is_signature_by own.algorithm m own first digest given
