-- Signatures under a key of a pair (API specification, javacard.security.Signature).
pub mod Ecdsa
pub mod Keys
pub mod Kept
pub mod Parts
pub mod Signing
use Rattle.std.specs.Prelude.{ℕ, pos, ◌+◌, ◌*◌, nat_lt, Bool, List, [], ◌++◌, replicate, Option, Some, None, Result, Ok, Err, if◌then◌else◌}
use Rattle.jc_digests.specs.Kept.{digest_of_state}
use Rattle.jc_frames.specs.declared.cell.Cell.{Cell}
use Rattle.jc_frames.specs.declared.outcome.FrameExit.{FrameExit}
use Rattle.jc_frames.specs.declared.outcome.FrameExit.TheVariants.{Throw}
use Rattle.jc_memory.specs.State.{MemoryState}
use Rattle.jc_platform.specs.declared.names.PlatformClass.TheVariants as class
use Rattle.jc_linker.specs.Values.{Packages}
use Rattle.jc_world.specs.Answers.{and_then}
use Rattle.jc_world.specs.declared.arrays.Stretch.{Stretch}
use Rattle.jc_api.specs.Arguments.{counted_of}
use Rattle.jc_api.specs.Changing.{EngineAnswer, changes, state_at}
use Rattle.jc_api.specs.Forms.{CallAnswer, tells}
use Rattle.jc_api.specs.Initializing.{FieldsAnswer}
use Rattle.jc_api_ciphers.specs.Initialized.{initializes, taken_mode}
use Rattle.jc_api_ciphers.specs.Signature.Pair.Kept.{first_bytes, kept_words}
use Rattle.jc_api_keys.specs.DigestStates.{bytes_after, digest_shorts}
use Rattle.jc_api_ciphers.specs.Outputs.{puts_output}
use Rattle.jc_api_ciphers.specs.Signature.PairAlgorithms.{hash_of, kept_shorts, pair_shorts}
use Rattle.jc_api_ciphers.specs.Signature.Pair.Keys.{kept_pair_key, pair_parts, taken_pair_key}
use Rattle.jc_api_ciphers.specs.Signature.Pair.Signing.{is_signature_of, signature_of}
use Rattle.jc_api_ciphers.specs.Signature.Purpose.{initialized_for}
use Rattle.jc_api_ciphers.specs.declared.initialized.KeyedEngine.{KeyedEngine}
use Rattle.jc_api_ciphers.specs.declared.signature.pair.RunningPair.{RunningPair}
use Rattle.jc_api_ciphers.specs.declared.signature.pair_algorithms.PairSignature.{PairSignature}
use Rattle.jc_api_ciphers.specs.declared.signature.pair_algorithms.PairSignature.TheVariants.{Ecdsa as EcdsaSignature, Iso9796, Rsa}
use Rattle.jc_api_ciphers.specs.declared.signature.purpose.Purpose.{Purpose}
use Rattle.jc_api_ciphers.specs.declared.signature.purpose.Purpose.TheVariants.{Either, Signing as ToSign, Verifying}
use Rattle.jc_api_keys.specs.Exceptions.{illegal_value}
use Rattle.jc_api_keys.specs.Shorts.{shorts_of}

-- ---- init

-- init by a key and a mode: the mode, the key, and its parts; then all of it is set, as one change, and nothing came
unfoldable pub pair_init : PairSignature → KeyedEngine → List Cell → Packages → MemoryState → Result FieldsAnswer FrameExit
pair_init a own args p m = and_then (taken_mode args) (λ mode. and_then (taken_pair_key a mode args p m) (λ key. and_then (pair_parts m key)
    (λ parts. Ok (initializes class.Signature (pair_shorts a) own mode []))))

-- with a vector, which no such signature takes
unfoldable pub pair_init_with_vector : PairSignature → List Cell → Packages → MemoryState → Result FieldsAnswer FrameExit
pair_init_with_vector a args p m = and_then (taken_mode args) (λ mode. and_then (taken_pair_key a mode args p m) (λ key.
    and_then (counted_of 3 args p m) (λ e. Err (Throw illegal_value))))

-- ---- the message

-- the message under an object: first the cells of its state, those of the digest and those of what is kept; then whether it is initialized for the
-- purpose, then its key and the parts of that
unfoldable pub running_pair : Purpose → PairSignature → KeyedEngine → Packages → MemoryState → Result RunningPair FrameExit
running_pair purpose a own p m = and_then (state_at p m own.array 0 (digest_shorts (hash_of a))) (λ state.
    and_then (state_at p m own.array (digest_shorts (hash_of a)) (kept_shorts a)) (λ kept. and_then (initialized_for purpose own.mode)
    (λ u. and_then (kept_pair_key a own p m) (λ key. and_then (pair_parts m key) (λ parts. Ok (record {
      algorithm = a;
      digest = record { algorithm = hash_of a; state = state };
      kept = kept;
      key = key.key.own;
      size = key.size;
      parts = parts;
    }))))))

-- how many bytes a SEQUENCE of two INTEGERs has that are this long together
abbrev pub longest_encoding : ℕ → ℕ
longest_encoding n = if nat_lt n 128 then n + 2 else n + 3

-- getLength: how many bytes a signature has, at most where they differ: those of ECDSA are of two numbers of at most one byte more than a coordinate
abbrev pub longest_signature : PairSignature → ℕ → ℕ
longest_signature (Rsa padding h) size = size
longest_signature (EcdsaSignature h) size = longest_encoding (2 * (size + 3))
longest_signature Iso9796 size = size

unfoldable pub pair_get_length : PairSignature → KeyedEngine → Packages → MemoryState → Result CallAnswer FrameExit
pair_get_length a own p m = and_then (running_pair Either a own p m) (λ run. Ok (tells (pos (longest_signature a run.size))))

-- once elements follow the message: the state of the digest, and what is kept
abbrev pub goes_on : MemoryState → RunningPair → Stretch → EngineAnswer
goes_on m own e = changes own.digest.state.array 0 (shorts_of (bytes_after m own.digest e) ++ kept_words own.algorithm m own e) None

-- update: the bytes follow the message
unfoldable pub pair_update : PairSignature → KeyedEngine → List Cell → Packages → MemoryState → Result EngineAnswer FrameExit
pair_update a own args p m = and_then (running_pair Either a own p m) (λ run. and_then (counted_of 1 args p m)
    (λ e. Ok (goes_on m run e)))

-- the digest of the message if it ends with these elements
abbrev pub digest_with : MemoryState → RunningPair → Stretch → List ℕ
digest_with m own e = digest_of_state own.digest.algorithm (bytes_after m own.digest e)

-- nothing came
abbrev pub nothing_to_sign : RunningPair → List ℕ
nothing_to_sign own = replicate (pair_shorts own.algorithm) 0

-- a signature is put, and nothing came from now on
abbrev pub puts_signature : RunningPair → List ℕ → List Cell → Packages → MemoryState → Result EngineAnswer FrameExit
puts_signature own bytes args p m = puts_output own.digest.state.array (nothing_to_sign own) bytes args p m

-- that which the key makes
abbrev pub puts_if_signed : RunningPair → Option (List ℕ) → List Cell → Packages → MemoryState → Result EngineAnswer FrameExit
puts_if_signed own None args p m = Err (Throw illegal_value)
puts_if_signed own (Some bytes) args p m = puts_signature own bytes args p m

abbrev pub signs : RunningPair → Stretch → List Cell → Packages → MemoryState → Result EngineAnswer FrameExit
signs own e args p m = puts_if_signed own (signature_of p m own (first_bytes own.algorithm m own e) (digest_with m own e)) args p m

-- sign: the message ends with these bytes
unfoldable pub pair_sign : PairSignature → KeyedEngine → List Cell → Packages → MemoryState → Result EngineAnswer FrameExit
pair_sign a own args p m = and_then (running_pair ToSign a own p m) (λ run. and_then (counted_of 1 args p m) (λ e. signs run e args p m))

-- whether elements are a signature is returned, and nothing came from now on
abbrev pub tells_if_signed : RunningPair → Bool → EngineAnswer
tells_if_signed own signed = changes own.digest.state.array 0 (nothing_to_sign own) (Some (if signed then pos 1 else pos 0))

abbrev pub verifies : MemoryState → RunningPair → Stretch → Stretch → EngineAnswer
verifies m own e given = tells_if_signed own (is_signature_of m own (first_bytes own.algorithm m own e) (digest_with m own e) given)

-- verify: the message ends with these bytes
unfoldable pub pair_verify : PairSignature → KeyedEngine → List Cell → Packages → MemoryState → Result EngineAnswer FrameExit
pair_verify a own args p m = and_then (running_pair Verifying a own p m) (λ run. and_then (counted_of 1 args p m) (λ e.
    and_then (counted_of 4 args p m) (λ given. Ok (verifies m run e given))))
