-- New keys of RSA.
use Rattle.std.specs.Option.{option_map}
use Rattle.std.specs.Prelude.{ℕ, ◌+◌, ◌*◌, ◌/◌, nat_le, List, [], ◌∷◌, ◌++◌, Option, Some, None, Result, Ok, Err, if◌then◌else◌}
use Rattle.jc_frames.specs.declared.outcome.FrameExit.{FrameExit}
use Rattle.jc_frames.specs.declared.outcome.FrameExit.TheVariants.{End, Throw}
use Rattle.jc_frames.specs.declared.outcome.Outcome.TheVariants.{Fault}
use Rattle.jc_memory.specs.State.{MemoryState}
use Rattle.jc_linker.specs.Values.{Packages}
use Rattle.jc_rsa.specs.KeyPair.{Parts}
use Rattle.jc_world.specs.Answers.{and_then}
use Rattle.jc_world.specs.Arrays.{bytes_in}
use Rattle.jc_world.specs.declared.arrays.Stretch.{Stretch}
use Rattle.jc_public_keys.specs.RsaKeys.{rsa_pair_of}
use Rattle.jc_api_keys.specs.KeyObjects.Parts.{key_part}
use Rattle.jc_api_keys.specs.declared.key_objects.contents.Key.{Key}
use Rattle.jc_api_keys.specs.declared.key_parts.KeyPart.TheVariants as part
use Rattle.jc_api_pairs.specs.KeyPair.Changes.{PairChange}
use Rattle.jc_api_pairs.specs.KeyPair.Kinds.{key_size}
use Rattle.jc_api_pairs.specs.KeyPair.NewKeys.{NewKeys, change_if_made, part_bytes, seed_of}
use Rattle.jc_api_pairs.specs.declared.key_pair.keys.KeysOfPair.{KeysOfPair}
use Rattle.jc_api_pairs.specs.declared.key_pair.kinds.PrivateForm.{PrivateForm}
use Rattle.jc_api_pairs.specs.declared.key_pair.kinds.PrivateForm.TheVariants.{Exponent, Primes}

-- ---- the public exponent

-- a part that is set, or none where it is not
abbrev pub if_set : Result Stretch FrameExit → Result (Option Stretch) FrameExit
if_set (Ok e) = Ok (Some e)
if_set (Err (Throw exception)) = Ok None
if_set (Err (End outcome)) = Err (End Fault)

-- where the exponent of a public key stands, if it is set
abbrev pub exponent_place : MemoryState → Key → Result (Option Stretch) FrameExit
exponent_place m key = if_set (key_part m key part.Exponent)

-- it, or 65537
abbrev pub exponent_bytes : MemoryState → Option Stretch → List ℕ
exponent_bytes m (Some e) = bytes_in m e
exponent_bytes m None = 1 ∷ 0 ∷ 1 ∷ []

-- ---- the new keys

-- how many bytes a prime has at least
abbrev pub fewest_of_prime : ℕ
fewest_of_prime = 32

-- the private key has the modulus and the private exponent, or the primes, the inverse of q and the exponents modulo p - 1 and q - 1
abbrev pub private_data : PrivateForm → Parts → List ℕ
private_data Exponent k = part_bytes k.modulus ++ part_bytes k.private_exponent
private_data Primes k = part_bytes k.p ++ (part_bytes k.q ++ (part_bytes k.q_inverse ++ (part_bytes k.dp ++ part_bytes k.dq)))

-- how many bytes they take, of primes of this many bytes
abbrev pub private_length : PrivateForm → ℕ → ℕ
private_length Exponent size = 2 * (2 + 2 * size)
private_length Primes size = 5 * (2 + size)

-- the public key has the modulus and the exponent
abbrev pub rsa_keys : PrivateForm → List ℕ → Parts → NewKeys
rsa_keys form exponent k = record { start = 0; public = part_bytes k.modulus ++ part_bytes exponent; private = private_data form k }

-- where there are no keys for the exponent it throws
abbrev pub change_for : PrivateForm → Packages → MemoryState → KeysOfPair → ℕ → List ℕ → Result PairChange FrameExit
change_for form p m pair size exponent = change_if_made pair (option_map (rsa_keys form exponent) (rsa_pair_of (seed_of p m pair) exponent size))

-- the primes have half as many bytes as the modulus. A key for which these are too few is a code fault
abbrev pub prime_size : Option ℕ → Result ℕ FrameExit
prime_size (Some n) = if nat_le fewest_of_prime (n / 2) then Ok (n / 2) else Err (End Fault)
prime_size None = Err (End Fault)

-- new keys of a pair of RSA
abbrev pub rsa_change : PrivateForm → Packages → MemoryState → KeysOfPair → Result PairChange FrameExit
rsa_change form p m pair = and_then (prime_size (key_size pair.public)) (λ size. and_then (exponent_place m pair.public) (λ place.
    change_for form p m pair size (exponent_bytes m place)))
