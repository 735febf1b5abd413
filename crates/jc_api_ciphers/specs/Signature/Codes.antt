-- Signatures that are codes under a secret key (API specification, javacard.security.Signature).
use Rattle.std.specs.Option.{option_map}
use Rattle.std.specs.Str.{bytes_eq}
use Rattle.std.specs.Prelude.{ℕ, pos, ◌≡◌, ◌≤◌, ◌/◌, ◌==◌, ◌&&◌, ◌||◌, Bool, true, List, length, replicate, take, Option, Some, None, Result, Ok, Err}
use Rattle.std.specs.Prelude.{if◌then◌else◌}
use Rattle.jc_digests.specs.Kept as digests
use Rattle.jc_frames.specs.declared.cell.Cell.{Cell}
use Rattle.jc_frames.specs.declared.outcome.FrameExit.{FrameExit}
use Rattle.jc_frames.specs.declared.outcome.FrameExit.TheVariants.{Throw}
use Rattle.jc_memory.specs.State.{MemoryState}
use Rattle.jc_ciphers.specs.Kept as modes
use Rattle.jc_ciphers.specs.Kept.Hmac.{hmac_of_state, hmac_state_after}
use Rattle.jc_ciphers.specs.Kept.Macs.{IsMacKeyLength, cipher_of, mac_of_state, mac_state_after}
use Rattle.jc_ciphers.specs.declared.kept.BlockAlgorithm.TheVariants as block
use Rattle.jc_ciphers.specs.declared.kept.macs.MacAlgorithm.{MacAlgorithm}
use Rattle.jc_ciphers.specs.declared.kept.macs.MacAlgorithm.TheVariants.{Algorithm3, Cbc, Cmac}
use Rattle.jc_platform.specs.declared.names.PlatformClass.TheVariants as class
use Rattle.jc_linker.specs.Values.{Packages}
use Rattle.jc_world.specs.Answers.{and_then}
use Rattle.jc_world.specs.Arrays.{IsInArray, bytes_in}
use Rattle.jc_world.specs.Instances.{IsInstanceWith}
use Rattle.jc_world.specs.Objects.{check_or_fault}
use Rattle.jc_world.specs.declared.arrays.Stretch.{Stretch}
use Rattle.jc_api.specs.Arguments.{counted_of}
use Rattle.jc_api.specs.Changing.{EngineAnswer, IsState, changes, changes_and_puts, state_at}
use Rattle.jc_api.specs.Forms.{CallAnswer, tells}
use Rattle.jc_api.specs.Initializing.{FieldsAnswer}
use Rattle.jc_api_ciphers.specs.Cipher.Block.{has_key_length, keys_of}
use Rattle.jc_api_keys.specs.Exceptions.{illegal_use, illegal_value}
use Rattle.jc_api_ciphers.specs.Initialized.{kept_key, key_init, keyed_cells, vector_at, vector_init}
use Rattle.jc_api_keys.specs.KeyObjects.Arguments.{key_argument}
use Rattle.jc_api_keys.specs.KeyObjects.Contents.{capacity, most_key}
use Rattle.jc_api_keys.specs.Receivers.{bytes_of_state, output_of}
use Rattle.jc_api_keys.specs.Shorts.{shorts_of}
use Rattle.jc_api_ciphers.specs.Signature.Algorithms.{code_size}
use Rattle.jc_api_ciphers.specs.Signature.Algorithms.{signature_size}
use Rattle.jc_api_ciphers.specs.Signature.Purpose.{initialized_for}
use Rattle.jc_api_ciphers.specs.declared.initialized.KeyedEngine.{KeyedEngine}
use Rattle.jc_api_ciphers.specs.declared.initialized.Requirements.{Requirements}
use Rattle.jc_api_keys.specs.declared.key_types.KeyAlgorithm.{KeyAlgorithm}
use Rattle.jc_api_keys.specs.declared.key_types.KeyAlgorithm.TheVariants as keys
use Rattle.jc_api_keys.specs.declared.key_objects.contents.Key.{Key}
use Rattle.jc_api_ciphers.specs.declared.signature.purpose.Purpose.{Purpose}
use Rattle.jc_api_ciphers.specs.declared.signature.purpose.Purpose.TheVariants.{Either, Signing, Verifying}
use Rattle.jc_api_ciphers.specs.declared.signature.code.RunningSignature.{RunningSignature}
use Rattle.jc_api_ciphers.specs.declared.signature.algorithms.SignatureAlgorithm.{SignatureAlgorithm}
use Rattle.jc_api_ciphers.specs.declared.signature.algorithms.SignatureAlgorithm.TheVariants.{Hmac, Mac}

-- ---- the objects

-- how many bytes, and shorts, a state has: that of a message under a block cipher, or of the inner digest
abbrev pub state_bytes : SignatureAlgorithm → ℕ
state_bytes (Mac a n) = modes.state_size (cipher_of a)
state_bytes (Hmac h) = digests.state_size h

abbrev pub signature_shorts : SignatureAlgorithm → ℕ
signature_shorts a = state_bytes a / 2

-- whose keys it takes
abbrev pub signature_keys : SignatureAlgorithm → KeyAlgorithm
signature_keys (Mac a n) = keys_of (cipher_of a)
signature_keys (Hmac h) = keys.Hmac

-- how many bytes the vector has that its init takes: CMAC and HMAC have none
abbrev pub mac_vector : MacAlgorithm → ℕ
mac_vector (Cbc a p) = modes.block_size a
mac_vector (Algorithm3 p) = modes.block_size block.Des
mac_vector Cmac = 0

abbrev pub taken_vector_size : SignatureAlgorithm → ℕ
taken_vector_size (Mac a n) = mac_vector a
taken_vector_size (Hmac h) = 0

-- what a signature requires
abbrev pub signature_requirements : SignatureAlgorithm → Requirements
signature_requirements a = record { keys = signature_keys a; vector = taken_vector_size a; state = signature_shorts a }

-- ---- init

-- a key may have this many bytes: of algorithm 3 it has two parts or three, else it is one of the block algorithm; of HMAC any
abbrev pub mac_takes_length : MacAlgorithm → ℕ → Bool
mac_takes_length (Cbc a p) n = has_key_length a n
mac_takes_length (Algorithm3 p) n = n == 16 || n == 24
mac_takes_length Cmac n = has_key_length block.Aes n

abbrev pub takes_length : SignatureAlgorithm → ℕ → Bool
takes_length (Mac a k) n = mac_takes_length a n
takes_length (Hmac h) n = true

-- the key among the arguments has such a length
abbrev pub length_or_illegal : SignatureAlgorithm → Key → Result (Unit {0}) FrameExit
length_or_illegal a key = if takes_length a (capacity key) then Ok tt else Err (Throw illegal_value)

unfoldable pub key_of_length : SignatureAlgorithm → List Cell → Packages → MemoryState → Result (Unit {0}) FrameExit
key_of_length a args p m = and_then (key_argument 1 args p m) (length_or_illegal a)

-- init by a key and a mode, and with a vector: all of it is set, as one change, and nothing came
unfoldable pub code_init : SignatureAlgorithm → KeyedEngine → List Cell → Packages → MemoryState → Result FieldsAnswer FrameExit
code_init a own args p m = and_then (key_of_length a args p m) (λ u. key_init class.Signature (signature_requirements a) own args p m)

unfoldable pub code_init_with_vector : SignatureAlgorithm → KeyedEngine → List Cell → Packages → MemoryState → Result FieldsAnswer FrameExit
code_init_with_vector a own args p m = and_then (key_of_length a args p m) (λ u. vector_init class.Signature (signature_requirements a) own args p m)

-- ---- the message

-- what codes by ciphers require of keys
abbrev pub FitsKey : SignatureAlgorithm → ℕ → Type 0
FitsKey (Mac a k) n = IsMacKeyLength a n
FitsKey (Hmac h) n = Unit {0}

-- the key that the object keeps, of a length of its algorithm
abbrev pub key_if_long : SignatureAlgorithm → Stretch → Result Stretch FrameExit
key_if_long a key = and_then (check_or_fault (takes_length a key.count)) (λ u. Ok key)

unfoldable pub signature_key : SignatureAlgorithm → KeyedEngine → Packages → MemoryState → Result Stretch FrameExit
signature_key a own p m = and_then (kept_key (signature_requirements a) own p m) (key_if_long a)

-- these cells of its state, of its vector and of its key are there
pub record IsRunning (m : MemoryState) (own : RunningSignature) : Type 0 where
  pub engine : IsInstanceWith m own.own keyed_cells
  pub there : IsState m own.state
  pub all : own.state.count ≡ signature_shorts own.algorithm
  pub key : IsInArray m own.key
  pub few : own.key.count ≤ most_key
  pub long : FitsKey own.algorithm own.key.count

-- the message under a receiver: first the cells of its state, then whether it is initialized for the purpose, then its key
unfoldable pub running_in : Purpose → KeyedEngine → Packages → MemoryState → SignatureAlgorithm → Result RunningSignature FrameExit
running_in purpose own p m a = and_then (state_at p m own.array 0 (signature_shorts a)) (λ state. and_then (initialized_for purpose own.mode) (λ u.
    and_then (signature_key a own p m) (λ key. Ok (record { own = own.own; algorithm = a; key = key; state = state }))))

-- getLength: how many bytes a signature has, of an object that is initialized
unfoldable pub code_get_length : SignatureAlgorithm → KeyedEngine → Packages → MemoryState → Result CallAnswer FrameExit
code_get_length a own p m = and_then (running_in Either own p m a) (λ run. Ok (tells (pos (signature_size run.algorithm))))

-- how many bytes of the vector stand before its first block: a block; HMAC has none
abbrev pub vector_size : SignatureAlgorithm → ℕ
vector_size (Mac a n) = modes.block_size (cipher_of a)
vector_size (Hmac h) = 0

abbrev pub vector_of : MemoryState → RunningSignature → List ℕ
vector_of m own = vector_at m own.own (vector_size own.algorithm)

-- under a key and a vector: the bytes of a state once a piece follows
abbrev pub state_after : SignatureAlgorithm → List ℕ → List ℕ → List ℕ → List ℕ → List ℕ
state_after (Mac a n) key vector state piece = mac_state_after a key vector state piece
state_after (Hmac h) key vector state piece = hmac_state_after h key state piece

-- and the signature of the message that a state has taken in and that ends by a piece, the first bytes of the code; none where it cannot end so
abbrev pub signature_of_state : SignatureAlgorithm → List ℕ → List ℕ → List ℕ → List ℕ → Option (List ℕ)
signature_of_state (Mac a n) key vector state piece = option_map (take (code_size a n)) (mac_of_state a key vector state piece)
signature_of_state (Hmac h) key vector state piece = Some (hmac_of_state h key state piece)

-- the bytes of the state once these elements follow, and the signature if the message ends so
abbrev pub bytes_after : MemoryState → RunningSignature → Stretch → List ℕ
bytes_after m own e = state_after own.algorithm (bytes_in m own.key) (vector_of m own) (bytes_of_state m own.state) (bytes_in m e)

abbrev pub signature_with : MemoryState → RunningSignature → Stretch → Option (List ℕ)
signature_with m own e = signature_of_state own.algorithm (bytes_in m own.key) (vector_of m own) (bytes_of_state m own.state) (bytes_in m e)

-- nothing came
abbrev pub nothing_came : RunningSignature → List ℕ
nothing_came own = replicate (signature_shorts own.algorithm) 0

-- the message goes on: all of the state is set
abbrev pub goes_on : RunningSignature → List ℕ → EngineAnswer
goes_on own bytes = changes own.state.array 0 (shorts_of bytes) None

-- the message ends: the signature is put into elements, as one change, and nothing came from now on; its length is returned
abbrev pub signs : RunningSignature → Stretch → Option (List ℕ) → Result EngineAnswer FrameExit
signs own to None = Err (Throw illegal_use)
signs own to (Some signature) = Ok (changes_and_puts own.state.array 0 (nothing_came own) to signature (Some (pos (signature_size own.algorithm))))

-- these elements are the signature; those of another number are none
abbrev pub is_signature : MemoryState → Stretch → List ℕ → Bool
is_signature m e signature = e.count == length signature && bytes_eq (bytes_in m e) signature

-- the message ends: whether elements are its signature is returned, and nothing came from now on
abbrev pub verifies : MemoryState → RunningSignature → Stretch → Option (List ℕ) → Result EngineAnswer FrameExit
verifies m own e None = Err (Throw illegal_use)
verifies m own e (Some signature) = Ok (changes own.state.array 0 (nothing_came own) (Some (if is_signature m e signature then pos 1 else pos 0)))

-- update: the bytes follow the message
unfoldable pub code_update : SignatureAlgorithm → KeyedEngine → List Cell → Packages → MemoryState → Result EngineAnswer FrameExit
code_update a own args p m = and_then (running_in Either own p m a) (λ run. and_then (counted_of 1 args p m) (λ e. Ok (goes_on run (bytes_after m run e))))

-- sign: the message ends with these bytes
unfoldable pub code_sign : SignatureAlgorithm → KeyedEngine → List Cell → Packages → MemoryState → Result EngineAnswer FrameExit
code_sign a own args p m = and_then (running_in Signing own p m a) (λ run. and_then (counted_of 1 args p m) (λ e.
    and_then (output_of 4 (signature_size run.algorithm) args p m) (λ to. signs run to (signature_with m run e))))

-- verify: the message ends with these bytes
unfoldable pub code_verify : SignatureAlgorithm → KeyedEngine → List Cell → Packages → MemoryState → Result EngineAnswer FrameExit
code_verify a own args p m = and_then (running_in Verifying own p m a) (λ run. and_then (counted_of 1 args p m) (λ e.
    and_then (counted_of 4 args p m) (λ given. verifies m run given (signature_with m run e))))
