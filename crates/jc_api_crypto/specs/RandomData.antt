-- RandomData (API specification). The bytes are a function of the platform table, of the object, of what was drawn since the last reset, and
-- of what setSeed was given.
use Rattle.std.specs.Prelude.{ℕ, ℤ, int_le, zero, suc, pos, ◌≡◌, ◌+◌, ◌*◌, ◌/◌, ◌%◌, ◌^◌, ◌==◌, ◌&&◌, Bool, List, [], ◌∷◌, ◌++◌, take, Option, Some, None, Result, Ok, Err, if◌then◌else◌}
use Rattle.std.specs.Int.{cast_signed, to_be_bytes, w16, w32}
use Rattle.jc_transient.specs.declared.cell.ClearEvent.TheVariants.{Reset}
use Rattle.sha2.specs.Sha256.{sha256}
use Rattle.jc_frames.specs.declared.cell.Cell.{Cell}
use Rattle.jc_frames.specs.declared.outcome.FrameExit.{FrameExit}
use Rattle.jc_frames.specs.declared.outcome.FrameExit.TheVariants.{Throw}
use Rattle.jc_memory.specs.Cells.{word_at, words_at}
use Rattle.jc_memory.specs.State.{MemoryState}
use Rattle.jc_platform.specs.declared.names.PlatformClass.TheVariants as class
use Rattle.jc_linker.specs.Values.{Packages}
use Rattle.jc_world.specs.Answers.{and_then}
use Rattle.jc_world.specs.Arrays.{bytes_in}
use Rattle.jc_world.specs.Objects.{short_argument, some_or_fault}
use Rattle.jc_world.specs.declared.arrays.Stretch.{Stretch}
use Rattle.jc_api.specs.Arguments.{counted_of}
use Rattle.jc_api.specs.Changing.{EngineAnswer, IsState, changes, changes_and_puts, state_at}
use Rattle.jc_api.specs.Forms.{CallAnswer, tells}
use Rattle.jc_api.specs.declared.factory.NewEngine.{NewEngine}
use Rattle.jc_api.specs.declared.factory.StateKind.TheVariants.{Shorts}
use Rattle.jc_api_keys.specs.Exceptions.{illegal_value, no_such_algorithm}
use Rattle.jc_api_keys.specs.Receivers.{receiver_of}
use Rattle.jc_api_keys.specs.Shorts.{bytes_of_shorts, first_shorts}
use Rattle.jc_api_crypto.specs.declared.random_data.RunningRandom.{RunningRandom}
use Rattle.jc_api_crypto.specs.declared.random_data.source.Source.{Source}

-- ALG_PSEUDO_RANDOM to ALG_KEYGENERATION: 1 to 6, all of which are the same function
abbrev pub is_random_algorithm : ℤ → Bool
is_random_algorithm v = int_le (pos 1) v && int_le v (pos 6)

-- the state: a counter, and 32 bytes into which setSeed mixes
abbrev pub counter_shorts : ℕ
counter_shorts = 2

abbrev pub mixed_shorts : ℕ
mixed_shorts = 16

abbrev pub random_shorts : ℕ
random_shorts = 18

-- ---- the function

-- the 32 bytes of a number
abbrev pub random_block : Source → ℕ → List ℕ
random_block s k = sha256 (((s.seed ++ to_be_bytes w16 s.object) ++ s.mixed) ++ to_be_bytes w32 k)

-- those of n numbers from one on, modulo 2^32
unfoldable pub random_blocks : Source → ℕ → ℕ → List ℕ
random_blocks s k zero = []
random_blocks s k (suc n) = random_blocks s k n ++ random_block s ((k + n) % 2 ^ 32)

-- this many bytes from a number on: those of whole numbers, and the first of one more
abbrev pub random_bytes : Source → ℕ → ℕ → List ℕ
random_bytes s k count = random_blocks s k (count / 32) ++ take (count % 32) (random_block s ((k + count / 32) % 2 ^ 32))

-- the number after those that this many bytes use
abbrev pub next_number : ℕ → ℕ → ℕ
next_number k count = (k + (count + 31) / 32) % 2 ^ 32

-- ---- the objects

-- all cells of a state are there
pub record IsRunning (m : MemoryState) (own : RunningRandom) : Type 0 where
  pub there : IsState m own.state
  pub all : own.state.count ≡ random_shorts

-- the receiver, and the cells of its state
unfoldable pub running_random : List Cell → Packages → MemoryState → Result RunningRandom FrameExit
running_random args p m = and_then (receiver_of class.RandomData args p m) (λ own. and_then (state_at p m own.array 0 random_shorts)
    (λ e. Ok (record { own = own.own; state = e })))

-- the next number, and what setSeed mixed
abbrev pub counter_of : MemoryState → RunningRandom → ℕ
counter_of m own = word_at m own.state.array 0 * 65536 + word_at m own.state.array 1

abbrev pub mixed_of : MemoryState → RunningRandom → List ℕ
mixed_of m own = bytes_of_shorts (words_at m own.state.array counter_shorts mixed_shorts)

-- the bytes come from the platform table, from the object, and from what setSeed mixed
abbrev pub source_of : Packages → MemoryState → RunningRandom → Source
source_of p m own = record { seed = p.platform.random; object = own.own; mixed = mixed_of m own }

-- RandomData.getInstance: a new object with the algorithm of this number
unfoldable pub random_data_get_instance : List Cell → Result NewEngine FrameExit
random_data_get_instance args = and_then (some_or_fault (short_argument args 0)) (λ number. if is_random_algorithm number
    then Ok (record { class = class.RandomData; number = number; elements = Shorts; event = Some Reset; state = random_shorts })
    else Err (Throw no_such_algorithm))

-- RandomData.getAlgorithm: the number of the algorithm
unfoldable pub random_data_get_algorithm : List Cell → Packages → MemoryState → Result CallAnswer FrameExit
random_data_get_algorithm args p m = and_then (receiver_of class.RandomData args p m) (λ own. Ok (tells own.number))

-- random bytes are put into elements, of which there is one at least, as one change; the counter goes on
abbrev pub draws : Packages → MemoryState → RunningRandom → Stretch → Option ℤ → Result EngineAnswer FrameExit
draws p m own e result = if e.count == 0 then Err (Throw illegal_value) else
    (let k : ℕ = counter_of m own in let next : ℕ = next_number k e.count in
    Ok (changes_and_puts own.state.array 0 (next / 65536 ∷ next % 65536 ∷ []) e (random_bytes (source_of p m own) k e.count) result))

-- RandomData.generateData: the elements are filled
unfoldable pub random_data_generate_data : List Cell → Packages → MemoryState → Result EngineAnswer FrameExit
random_data_generate_data args p m = and_then (running_random args p m) (λ own. and_then (counted_of 1 args p m) (λ e. draws p m own e None))

-- RandomData.nextBytes: the same; the index after the last one is returned
unfoldable pub random_data_next_bytes : List Cell → Packages → MemoryState → Result EngineAnswer FrameExit
random_data_next_bytes args p m = and_then (running_random args p m) (λ own. and_then (counted_of 1 args p m)
    (λ e. draws p m own e (Some (cast_signed w16 (e.start + e.count)))))

-- RandomData.setSeed: the bytes are mixed in
unfoldable pub random_data_set_seed : List Cell → Packages → MemoryState → Result EngineAnswer FrameExit
random_data_set_seed args p m = and_then (running_random args p m) (λ own. and_then (counted_of 1 args p m)
    (λ e. Ok (changes own.state.array counter_shorts (first_shorts (sha256 (mixed_of m own ++ bytes_in m e)) mixed_shorts) None)))
