-- Ciphers of blocks (API specification, javacardx.crypto.Cipher).
use Rattle.std.specs.Ordering.{int_eq}
use Rattle.std.specs.Prelude.{ℕ, ℤ, pos, ◌≡◌, ◌/◌, ◌==◌, ◌||◌, Bool, List, length, replicate, Option, Some, None, Result, Ok, Err, if◌then◌else◌}
use Rattle.jc_frames.specs.declared.cell.Cell.{Cell}
use Rattle.jc_frames.specs.declared.outcome.FrameExit.{FrameExit}
use Rattle.jc_frames.specs.declared.outcome.FrameExit.TheVariants.{Throw}
use Rattle.jc_memory.specs.State.{MemoryState}
use Rattle.jc_ciphers.specs.Kept.Conversion.{conversion_after, conversion_end, conversion_output}
use Rattle.jc_ciphers.specs.Kept.{IsKeyLength, block_size, state_size}
use Rattle.jc_ciphers.specs.declared.kept.BlockAlgorithm.{BlockAlgorithm}
use Rattle.jc_ciphers.specs.declared.kept.BlockAlgorithm.TheVariants as block
use Rattle.jc_ciphers.specs.declared.kept.conversion.Chaining.{Chaining}
use Rattle.jc_ciphers.specs.declared.kept.conversion.Chaining.TheVariants.{Cbc, Ecb}
use Rattle.jc_ciphers.specs.declared.kept.conversion.Conversion.{Conversion}
use Rattle.jc_ciphers.specs.declared.kept.conversion.Direction.{Direction}
use Rattle.jc_ciphers.specs.declared.kept.conversion.Direction.TheVariants.{Decrypt, Encrypt}
use Rattle.jc_platform.specs.declared.names.PlatformClass.TheVariants as class
use Rattle.jc_linker.specs.Values.{Packages}
use Rattle.jc_world.specs.Answers.{and_then}
use Rattle.jc_world.specs.Arrays.{IsInArray, bytes_in}
use Rattle.jc_world.specs.Instances.{IsInstanceWith}
use Rattle.jc_world.specs.Objects.{check_or_fault}
use Rattle.jc_world.specs.declared.arrays.Stretch.{Stretch}
use Rattle.jc_api.specs.Arguments.{counted_of}
use Rattle.jc_api.specs.Changing.{EngineAnswer, IsState, state_at}
use Rattle.jc_api.specs.Initializing.{FieldsAnswer}
use Rattle.jc_api_keys.specs.Exceptions.{illegal_use, invalid_init}
use Rattle.jc_api_ciphers.specs.Outputs.{puts_output}
use Rattle.jc_api_ciphers.specs.Initialized.{kept_key, key_init, keyed_cells, vector_at, vector_init}
use Rattle.jc_api_keys.specs.Receivers.{bytes_of_state}
use Rattle.jc_api_keys.specs.Shorts.{shorts_of}
use Rattle.jc_api_ciphers.specs.declared.cipher.block.RunningCipher.{RunningCipher}
use Rattle.jc_api_ciphers.specs.declared.cipher.algorithms.CipherAlgorithm.{CipherAlgorithm}
use Rattle.jc_api_ciphers.specs.declared.initialized.KeyedEngine.{KeyedEngine}
use Rattle.jc_api_ciphers.specs.declared.initialized.Requirements.{Requirements}
use Rattle.jc_api_keys.specs.declared.key_types.KeyAlgorithm.{KeyAlgorithm}
use Rattle.jc_api_keys.specs.declared.key_types.KeyAlgorithm.TheVariants as keys

-- ---- the objects

-- how many shorts a state has
abbrev pub cipher_shorts : BlockAlgorithm → ℕ
cipher_shorts a = state_size a / 2

-- whose keys a block algorithm takes
abbrev pub keys_of : BlockAlgorithm → KeyAlgorithm
keys_of block.Aes = keys.Aes
keys_of block.Des = keys.Des

-- how many bytes these may have
abbrev pub has_key_length : BlockAlgorithm → ℕ → Bool
has_key_length block.Aes n = n == 16 || (n == 24 || n == 32)
has_key_length block.Des n = n == 8 || (n == 16 || n == 24)

-- how many bytes a vector has: a block, where blocks are chained
abbrev pub vector_size : BlockAlgorithm → Chaining → ℕ
vector_size a Cbc = block_size a
vector_size a Ecb = 0

-- what a cipher requires
abbrev pub cipher_requirements : CipherAlgorithm → Requirements
cipher_requirements a = record { keys = keys_of a.block; vector = vector_size a.block a.chaining; state = cipher_shorts a.block }

-- init by a key and a mode, and with a vector: all of it is set, as one change, and nothing came
unfoldable pub block_init : CipherAlgorithm → KeyedEngine → List Cell → Packages → MemoryState → Result FieldsAnswer FrameExit
block_init a own args p m = key_init class.Cipher (cipher_requirements a) own args p m

unfoldable pub block_init_with_vector : CipherAlgorithm → KeyedEngine → List Cell → Packages → MemoryState → Result FieldsAnswer FrameExit
block_init_with_vector a own args p m = vector_init class.Cipher (cipher_requirements a) own args p m

-- ---- the message

-- MODE_DECRYPT, MODE_ENCRYPT; before init it throws
abbrev pub direction_of : ℤ → Result Direction FrameExit
direction_of mode = if int_eq mode (pos 1) then Ok Decrypt else if int_eq mode (pos 2) then Ok Encrypt else Err (Throw invalid_init)

-- the key that it keeps, of a length of its block algorithm
abbrev pub key_if_long : BlockAlgorithm → Stretch → Result Stretch FrameExit
key_if_long a key = and_then (check_or_fault (has_key_length a key.count)) (λ u. Ok key)

unfoldable pub cipher_key : CipherAlgorithm → KeyedEngine → Packages → MemoryState → Result Stretch FrameExit
cipher_key a own p m = and_then (kept_key (cipher_requirements a) own p m) (key_if_long a.block)

-- these cells of its state, of its vector and of its key are there
pub record IsRunning (m : MemoryState) (own : RunningCipher) : Type 0 where
  pub engine : IsInstanceWith m own.own keyed_cells
  pub there : IsState m own.state
  pub all : own.state.count ≡ cipher_shorts own.conversion.algorithm
  pub key : IsInArray m own.key
  pub long : IsKeyLength own.conversion.algorithm own.key.count

-- the message under a receiver: first the cells of its state, then whether it is initialized, then its key
abbrev pub conversion_of : CipherAlgorithm → Direction → Conversion
conversion_of a direction = record { algorithm = a.block; chaining = a.chaining; direction = direction; padding = a.padding }

unfoldable pub running_in : KeyedEngine → Packages → MemoryState → CipherAlgorithm → Result RunningCipher FrameExit
running_in own p m a = and_then (state_at p m own.array 0 (cipher_shorts a.block)) (λ state. and_then (direction_of own.mode) (λ direction.
    and_then (cipher_key a own p m) (λ key. Ok (record { own = own.own; conversion = conversion_of a direction; key = key; state = state }))))

-- the bytes of its vector
abbrev pub vector_of : MemoryState → RunningCipher → List ℕ
vector_of m own = vector_at m own.own (block_size own.conversion.algorithm)

-- the bytes of the state once these elements follow, those that are written then, and those that are written if the message ends so
abbrev pub bytes_after : MemoryState → RunningCipher → Stretch → List ℕ
bytes_after m own e = conversion_after own.conversion (bytes_in m own.key) (vector_of m own) (bytes_of_state m own.state) (bytes_in m e)

abbrev pub output_after : MemoryState → RunningCipher → Stretch → List ℕ
output_after m own e = conversion_output own.conversion (bytes_in m own.key) (vector_of m own) (bytes_of_state m own.state) (bytes_in m e)

abbrev pub last_output : MemoryState → RunningCipher → Stretch → Option (List ℕ)
last_output m own e = conversion_end own.conversion (bytes_in m own.key) (vector_of m own) (bytes_of_state m own.state) (bytes_in m e)

-- what is converted is put, and the state is set
abbrev pub goes_on : RunningCipher → Stretch → List Cell → Packages → MemoryState → Result EngineAnswer FrameExit
goes_on own e args p m = puts_output own.state.array (shorts_of (bytes_after m own e)) (output_after m own e) args p m

-- the last bytes are put, if the message may end so, and nothing came from now on
abbrev pub ends_with : RunningCipher → List Cell → Packages → MemoryState → Option (List ℕ) → Result EngineAnswer FrameExit
ends_with own args p m None = Err (Throw illegal_use)
ends_with own args p m (Some bytes) = puts_output own.state.array (replicate (cipher_shorts own.conversion.algorithm) 0) bytes args p m

-- update: the bytes follow the message
unfoldable pub block_update : CipherAlgorithm → KeyedEngine → List Cell → Packages → MemoryState → Result EngineAnswer FrameExit
block_update a own args p m = and_then (running_in own p m a) (λ run. and_then (counted_of 1 args p m) (λ e. goes_on run e args p m))

-- doFinal: the message ends with these bytes
unfoldable pub block_do_final : CipherAlgorithm → KeyedEngine → List Cell → Packages → MemoryState → Result EngineAnswer FrameExit
block_do_final a own args p m = and_then (running_in own p m a) (λ run. and_then (counted_of 1 args p m) (λ e. ends_with run args p m (last_output m run e)))
