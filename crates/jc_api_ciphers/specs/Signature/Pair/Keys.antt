-- The key objects that signatures under a key of a pair take, and their parts.
use Rattle.std.specs.Ordering.{int_eq}
use Rattle.std.specs.Prelude.{ℕ, ℤ, pos, nat_le, ◌==◌, ◌&&◌, Bool, true, false, List, Option, Some, None, Result, Ok, Err, if◌then◌else◌}
use Rattle.jc_frames.specs.declared.cell.Cell.{Cell}
use Rattle.jc_frames.specs.declared.outcome.FrameExit.{FrameExit}
use Rattle.jc_frames.specs.declared.outcome.FrameExit.TheVariants.{End, Throw}
use Rattle.jc_frames.specs.declared.outcome.Outcome.TheVariants.{Fault}
use Rattle.jc_memory.specs.State.{MemoryState}
use Rattle.jc_linker.specs.Values.{Packages}
use Rattle.jc_world.specs.Answers.{and_then}
use Rattle.jc_world.specs.Objects.{check_or_fault}
use Rattle.jc_public_keys.specs.RsaSignatures.{least_modulus}
use Rattle.jc_api_ciphers.specs.declared.initialized.KeyedEngine.{KeyedEngine}
use Rattle.jc_api_ciphers.specs.declared.signature.pair.keys.SizedKey.{SizedKey}
use Rattle.jc_api_ciphers.specs.declared.signature.pair.parts.Parts.{Parts}
use Rattle.jc_api_ciphers.specs.declared.signature.pair.parts.Parts.TheVariants as parts
use Rattle.jc_api_ciphers.specs.declared.signature.pair_algorithms.PairSignature.{PairSignature}
use Rattle.jc_api_ciphers.specs.declared.signature.pair_algorithms.PairSignature.TheVariants.{Ecdsa, Iso9796, Rsa}
use Rattle.jc_api_keys.specs.Exceptions.{illegal_value}
use Rattle.jc_api_keys.specs.KeyObjects.Arguments.{key_argument, key_at}
use Rattle.jc_api_keys.specs.KeyObjects.Parts.{key_part}
use Rattle.jc_api_keys.specs.KeyParts.{size_of}
use Rattle.jc_api_keys.specs.KeyTypes.{pair_key_named}
use Rattle.jc_api_keys.specs.declared.key_objects.contents.Key.{Key}
use Rattle.jc_api_keys.specs.declared.key_parts.KeyPart.{KeyPart}
use Rattle.jc_api_keys.specs.declared.key_parts.KeyPart.TheVariants as part
use Rattle.jc_api_keys.specs.declared.key_types.PairKey.{PairKey}
use Rattle.jc_api_keys.specs.declared.key_types.PairKey.TheVariants.{EcPrivate, EcPublic, RsaCrtPrivate, RsaPrivate, RsaPublic}

-- the key of a pair that a key object is, with its size
abbrev pub of_size : Key → PairKey → Option ℕ → Option SizedKey
of_size key k None = None
of_size key k (Some n) = Some (record { key = key; kind = k; size = n })

abbrev pub of_kind : Key → Option PairKey → Option SizedKey
of_kind key None = None
of_kind key (Some k) = of_size key k (size_of k key.elements.count)

abbrev pub sized_key : Key → Option SizedKey
sized_key key = of_kind key (pair_key_named key.number)

-- ---- which keys a signature takes

-- a signature is made with a private key, in MODE_SIGN, and verified with a public one, in MODE_VERIFY
abbrev pub rsa_takes : ℤ → PairKey → Bool
rsa_takes mode RsaPublic = int_eq mode (pos 2)
rsa_takes mode RsaPrivate = int_eq mode (pos 1)
rsa_takes mode RsaCrtPrivate = int_eq mode (pos 1)
rsa_takes mode EcPublic = false
rsa_takes mode EcPrivate = false

abbrev pub ecdsa_takes : ℤ → PairKey → Bool
ecdsa_takes mode RsaPublic = false
ecdsa_takes mode RsaPrivate = false
ecdsa_takes mode RsaCrtPrivate = false
ecdsa_takes mode EcPublic = int_eq mode (pos 2)
ecdsa_takes mode EcPrivate = int_eq mode (pos 1)

abbrev pub takes_kind : PairSignature → ℤ → PairKey → Bool
takes_kind (Rsa padding h) mode kind = rsa_takes mode kind
takes_kind (Ecdsa h) mode kind = ecdsa_takes mode kind
takes_kind Iso9796 mode kind = rsa_takes mode kind

-- an RSA key is long enough for an encoding
abbrev pub takes_size : PairSignature → ℕ → Bool
takes_size (Rsa padding h) n = nat_le (least_modulus padding h) n
takes_size (Ecdsa h) n = true
takes_size Iso9796 n = nat_le 22 n

abbrev pub takes_key : PairSignature → ℤ → SizedKey → Bool
takes_key a mode key = takes_size a key.size && takes_kind a mode key.kind

-- the key after the receiver, of such a kind and size
abbrev pub taken_or : FrameExit → PairSignature → ℤ → Option SizedKey → Result SizedKey FrameExit
taken_or exit a mode None = Err exit
taken_or exit a mode (Some key) = if takes_key a mode key then Ok key else Err exit

unfoldable pub taken_pair_key : PairSignature → ℤ → List Cell → Packages → MemoryState → Result SizedKey FrameExit
taken_pair_key a mode args p m = and_then (key_argument 1 args p m) (λ key. taken_or (Throw illegal_value) a mode (sized_key key))

-- and the key that an object has kept, or a code fault
unfoldable pub kept_pair_key : PairSignature → KeyedEngine → Packages → MemoryState → Result SizedKey FrameExit
kept_pair_key a own p m = and_then (key_at p m own.key) (λ key. taken_or (End Fault) a own.mode (sized_key key))

-- ---- their parts, of which one that is not set throws

-- a modulus of another length than the key's size is a code fault
abbrev pub rsa_parts : MemoryState → SizedKey → Result Parts FrameExit
rsa_parts m key = and_then (key_part m key.key part.Modulus) (λ modulus. and_then (key_part m key.key part.Exponent) (λ exponent.
    and_then (check_or_fault (modulus.count == key.size)) (λ u. Ok (parts.Rsa (record { modulus = modulus; exponent = exponent })))))

abbrev pub primes_parts : MemoryState → SizedKey → Result Parts FrameExit
primes_parts m key = and_then (key_part m key.key part.P) (λ p. and_then (key_part m key.key part.Q) (λ q. and_then (key_part m key.key part.Pq) (λ q_inverse.
    and_then (key_part m key.key part.Dp1) (λ dp. and_then (key_part m key.key part.Dq1) (λ dq. Ok (parts.Primes (record {
      p = p;
      q = q;
      q_inverse = q_inverse;
      dp = dp;
      dq = dq;
    })))))))

-- the domain parameters of a key, and the part that is the key
abbrev pub ec_parts : MemoryState → SizedKey → KeyPart → Result Parts FrameExit
ec_parts m key own = and_then (key_part m key.key part.Field) (λ field. and_then (key_part m key.key part.A) (λ a. and_then (key_part m key.key part.B) (λ b.
    and_then (key_part m key.key part.G) (λ base. and_then (key_part m key.key part.R) (λ order. and_then (key_part m key.key own) (λ last.
    Ok (parts.Ec (record { field = field; a = a; b = b; base = base; order = order; key = last }))))))))

abbrev pub parts_of_kind : MemoryState → SizedKey → PairKey → Result Parts FrameExit
parts_of_kind m key RsaPublic = rsa_parts m key
parts_of_kind m key RsaPrivate = rsa_parts m key
parts_of_kind m key RsaCrtPrivate = primes_parts m key
parts_of_kind m key EcPublic = ec_parts m key part.W
parts_of_kind m key EcPrivate = ec_parts m key part.S

unfoldable pub pair_parts : MemoryState → SizedKey → Result Parts FrameExit
pair_parts m key = parts_of_kind m key key.kind
