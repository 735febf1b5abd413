-- MessageDigest (API specification).
use Rattle.std.specs.Ordering.{int_eq}
use Rattle.std.specs.Prelude.{ℕ, ℤ, pos, List, replicate, Option, Some, None, Result, Ok, if◌then◌else◌}
use Rattle.jc_transient.specs.declared.cell.ClearEvent.TheVariants.{Reset}
use Rattle.jc_digests.specs.Kept.{digest_of_state, digest_size}
use Rattle.jc_digests.specs.declared.kept.HashAlgorithm.{HashAlgorithm}
use Rattle.jc_digests.specs.declared.kept.HashAlgorithm.TheVariants as hash
use Rattle.jc_frames.specs.declared.cell.Cell.{Cell}
use Rattle.jc_frames.specs.declared.outcome.FrameExit.{FrameExit}
use Rattle.jc_memory.specs.State.{MemoryState}
use Rattle.jc_platform.specs.declared.names.PlatformClass.{PlatformClass}
use Rattle.jc_platform.specs.declared.names.PlatformClass.TheVariants as class
use Rattle.jc_linker.specs.Values.{Packages}
use Rattle.jc_world.specs.Answers.{and_then}
use Rattle.jc_world.specs.Objects.{short_argument, some_or_fault}
use Rattle.jc_api.specs.Arguments.{counted_of}
use Rattle.jc_api.specs.Changing.{EngineAnswer, changes, changes_and_puts, state_at}
use Rattle.jc_api.specs.Forms.{CallAnswer, tells}
use Rattle.jc_api.specs.declared.factory.NewEngine.{NewEngine}
use Rattle.jc_api.specs.declared.factory.StateKind.TheVariants.{Shorts}
use Rattle.jc_api_keys.specs.Receivers.{named_or_throw, output_of, receiver_of}
use Rattle.jc_api_keys.specs.Shorts.{shorts_of}
use Rattle.jc_api_keys.specs.declared.digest_states.RunningDigest.{RunningDigest}
use Rattle.jc_api_keys.specs.DigestStates.{bytes_after, digest_shorts}
use Rattle.jc_api_keys.specs.declared.receivers.Receiver.{Receiver}

-- the hash function of a number: SHA, MD5, SHA_256, SHA_384, SHA_512, SHA_224
abbrev pub hash_named : ℤ → Option HashAlgorithm
hash_named v =
    if int_eq v (pos 1) then Some hash.Sha1 else if int_eq v (pos 2) then Some hash.Md5 else if int_eq v (pos 4) then Some hash.Sha256
    else if int_eq v (pos 5) then Some hash.Sha384 else if int_eq v (pos 6) then Some hash.Sha512 else if int_eq v (pos 7) then Some hash.Sha224 else None

-- ---- the objects

-- the hash function of a receiver of this class, and the cells of its state
abbrev pub running_in : Receiver → Packages → MemoryState → HashAlgorithm → Result RunningDigest FrameExit
running_in own p m a = and_then (state_at p m own.array 0 (digest_shorts a)) (λ e. Ok (record { algorithm = a; state = e }))

unfoldable pub running_digest : PlatformClass → List Cell → Packages → MemoryState → Result RunningDigest FrameExit
running_digest c args p m = and_then (receiver_of c args p m) (λ own. and_then (some_or_fault (hash_named own.number)) (running_in own p m))

-- a new object of a class, with the hash function of this number, to which nothing came; whether it is for access from outside does not matter
unfoldable pub new_digest : PlatformClass → List Cell → Result NewEngine FrameExit
new_digest c args = and_then (some_or_fault (short_argument args 0)) (λ number. and_then (some_or_fault (short_argument args 1))
    (λ external. and_then (named_or_throw (hash_named number)) (λ a. Ok (record {
      class = c;
      number = number;
      elements = Shorts;
      event = Some Reset;
      state = digest_shorts a;
    }))))

-- MessageDigest.getInstance: a new object with a hash function
abbrev pub message_digest_get_instance : List Cell → Result NewEngine FrameExit
message_digest_get_instance args = new_digest class.MessageDigest args

-- MessageDigest.getInitializedMessageDigestInstance: one whose first hash value can be set
abbrev pub message_digest_get_initialized_message_digest_instance : List Cell → Result NewEngine FrameExit
message_digest_get_initialized_message_digest_instance args = new_digest class.InitializedMessageDigest args

-- MessageDigest.getAlgorithm: the number of the hash function
unfoldable pub message_digest_get_algorithm : List Cell → Packages → MemoryState → Result CallAnswer FrameExit
message_digest_get_algorithm args p m = and_then (receiver_of class.MessageDigest args p m) (λ own. Ok (tells own.number))

-- MessageDigest.getLength: how many bytes a digest has
unfoldable pub message_digest_get_length : List Cell → Packages → MemoryState → Result CallAnswer FrameExit
message_digest_get_length args p m = and_then (receiver_of class.MessageDigest args p m) (λ own. and_then (some_or_fault (hash_named own.number))
    (λ a. Ok (tells (pos (digest_size a)))))

-- ---- the message

-- all of the state is set, and nothing returned
abbrev pub sets_state : RunningDigest → List ℕ → EngineAnswer
sets_state own words = changes own.state.array 0 words None

-- nothing came
abbrev pub nothing_came : RunningDigest → List ℕ
nothing_came own = replicate (digest_shorts own.algorithm) 0

-- MessageDigest.update: the bytes follow the message
unfoldable pub message_digest_update : List Cell → Packages → MemoryState → Result EngineAnswer FrameExit
message_digest_update args p m = and_then (running_digest class.MessageDigest args p m) (λ own. and_then (counted_of 1 args p m)
    (λ e. Ok (sets_state own (shorts_of (bytes_after m own e)))))

-- MessageDigest.doFinal: the digest of the message with these bytes is put, as one change; its length is returned, and nothing came from now on
unfoldable pub message_digest_do_final : List Cell → Packages → MemoryState → Result EngineAnswer FrameExit
message_digest_do_final args p m = and_then (running_digest class.MessageDigest args p m) (λ own. and_then (counted_of 1 args p m) (λ e.
    and_then (output_of 4 (digest_size own.algorithm) args p m) (λ to. Ok (changes_and_puts own.state.array 0 (nothing_came own) to
    (digest_of_state own.algorithm (bytes_after m own e)) (Some (pos (digest_size own.algorithm)))))))

-- MessageDigest.reset: nothing came
unfoldable pub message_digest_reset : List Cell → Packages → MemoryState → Result EngineAnswer FrameExit
message_digest_reset args p m = and_then (running_digest class.MessageDigest args p m) (λ own. Ok (sets_state own (nothing_came own)))
