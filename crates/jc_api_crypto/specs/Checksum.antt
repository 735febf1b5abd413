-- Checksum (API specification). A checksum is the complement of a remainder, and the next piece goes on from it; it begins with 0.
use Rattle.std.specs.Ordering.{int_eq}
use Rattle.std.specs.Prelude.{ℕ, ℤ, pos, ◌≡◌, ◌+◌, ◌-◌, ◌*◌, ◌/◌, ◌%◌, ◌==◌, List, [], ◌∷◌, replicate, slice_index, Option, Some, None, Result, Ok, Err, if◌then◌else◌}
use Rattle.jc_transient.specs.declared.cell.ClearEvent.TheVariants.{Reset}
use Rattle.jc_digests.specs.Checksums.{generator_16, generator_32, remainder}
use Rattle.jc_frames.specs.declared.cell.Cell.{Cell}
use Rattle.jc_frames.specs.declared.outcome.FrameExit.{FrameExit}
use Rattle.jc_frames.specs.declared.outcome.FrameExit.TheVariants.{Throw}
use Rattle.jc_memory.specs.Cells.{words_at}
use Rattle.jc_memory.specs.State.{MemoryState}
use Rattle.jc_platform.specs.declared.names.PlatformClass.TheVariants as class
use Rattle.jc_linker.specs.Values.{Packages}
use Rattle.jc_world.specs.Answers.{and_then}
use Rattle.jc_world.specs.Arrays.{bytes_in}
use Rattle.jc_world.specs.Objects.{short_argument, some_or_fault}
use Rattle.jc_world.specs.declared.arrays.Stretch.{Stretch}
use Rattle.jc_api.specs.Arguments.{counted_of}
use Rattle.jc_api.specs.Changing.{EngineAnswer, IsState, changes, changes_and_puts, state_at}
use Rattle.jc_api.specs.Forms.{CallAnswer, tells}
use Rattle.jc_api.specs.declared.factory.NewEngine.{NewEngine}
use Rattle.jc_api.specs.declared.factory.StateKind.TheVariants.{Shorts}
use Rattle.jc_api_keys.specs.Exceptions.{illegal_value}
use Rattle.jc_api_keys.specs.Receivers.{named_or_throw, output_of, receiver_of}
use Rattle.jc_api_keys.specs.Shorts.{bytes_of_shorts, first_shorts}
use Rattle.jc_api_crypto.specs.declared.checksum.ChecksumAlgorithm.{ChecksumAlgorithm}
use Rattle.jc_api_crypto.specs.declared.checksum.ChecksumAlgorithm.TheVariants.{Crc16, Crc32}
use Rattle.jc_api_crypto.specs.declared.checksum.RunningChecksum.{RunningChecksum}
use Rattle.jc_api_keys.specs.declared.receivers.Receiver.{Receiver}

-- the checksum of a number: ISO3309_CRC16, ISO3309_CRC32
abbrev pub checksum_named : ℤ → Option ChecksumAlgorithm
checksum_named v = if int_eq v (pos 1) then Some Crc16 else if int_eq v (pos 2) then Some Crc32 else None

-- how many shorts a checksum has, which are its state
abbrev pub checksum_shorts : ChecksumAlgorithm → ℕ
checksum_shorts Crc16 = 1
checksum_shorts Crc32 = 2

-- and bytes
abbrev pub checksum_size : ChecksumAlgorithm → ℕ
checksum_size a = 2 * checksum_shorts a

-- the checksum of 16 bits, and of 32, that follows one once a piece follows
abbrev pub next_16 : ℕ → List ℕ → ℕ
next_16 v piece = 0xffff - remainder generator_16 (0xffff - v) piece

abbrev pub next_32 : ℕ → List ℕ → ℕ
next_32 v piece = 0xffffffff - remainder generator_32 (0xffffffff - v) piece

-- the shorts of a checksum, the high one first, once a piece follows
abbrev pub shorts_after : ChecksumAlgorithm → List ℕ → List ℕ → List ℕ
shorts_after Crc16 words piece = next_16 (slice_index words 0) piece ∷ []
shorts_after Crc32 words piece =
    let v : ℕ = next_32 (slice_index words 0 * 65536 + slice_index words 1) piece in v / 65536 ∷ v % 65536 ∷ []

-- ---- the objects

-- these cells of its state are there
pub record IsRunning (m : MemoryState) (own : RunningChecksum) : Type 0 where
  pub there : IsState m own.state
  pub all : own.state.count ≡ checksum_shorts own.algorithm

-- the checksum of the receiver, and the cells of its state
abbrev pub running_in : Receiver → Packages → MemoryState → ChecksumAlgorithm → Result RunningChecksum FrameExit
running_in own p m a = and_then (state_at p m own.array 0 (checksum_shorts a)) (λ e. Ok (record { algorithm = a; state = e }))

unfoldable pub running_checksum : List Cell → Packages → MemoryState → Result RunningChecksum FrameExit
running_checksum args p m = and_then (receiver_of class.Checksum args p m) (λ own. and_then (some_or_fault (checksum_named own.number)) (running_in own p m))

-- Checksum.getInstance: a new object with the checksum of this number, which is 0; whether it is for access from outside does not matter
unfoldable pub checksum_get_instance : List Cell → Result NewEngine FrameExit
checksum_get_instance args = and_then (some_or_fault (short_argument args 0)) (λ number. and_then (some_or_fault (short_argument args 1))
    (λ external. and_then (named_or_throw (checksum_named number)) (λ a. Ok (record {
      class = class.Checksum;
      number = number;
      elements = Shorts;
      event = Some Reset;
      state = checksum_shorts a;
    }))))

-- Checksum.getAlgorithm: the number of the checksum
unfoldable pub checksum_get_algorithm : List Cell → Packages → MemoryState → Result CallAnswer FrameExit
checksum_get_algorithm args p m = and_then (receiver_of class.Checksum args p m) (λ own. Ok (tells own.number))

-- ---- the message

-- the shorts of the checksum once these elements follow
abbrev pub words_after : MemoryState → RunningChecksum → Stretch → List ℕ
words_after m own e = shorts_after own.algorithm (words_at m own.state.array own.state.start own.state.count) (bytes_in m e)

-- the checksum is set to that of the elements, the high byte first, of which there are as many as it has bytes
abbrev pub begins_with : MemoryState → RunningChecksum → Stretch → Result EngineAnswer FrameExit
begins_with m own e = if e.count == checksum_size own.algorithm
    then Ok (changes own.state.array 0 (first_shorts (bytes_in m e) (checksum_shorts own.algorithm)) None) else Err (Throw illegal_value)

-- Checksum.init: the checksum is given
unfoldable pub checksum_init : List Cell → Packages → MemoryState → Result EngineAnswer FrameExit
checksum_init args p m = and_then (running_checksum args p m) (λ own. and_then (counted_of 1 args p m) (λ e. begins_with m own e))

-- Checksum.update: the bytes follow
unfoldable pub checksum_update : List Cell → Packages → MemoryState → Result EngineAnswer FrameExit
checksum_update args p m = and_then (running_checksum args p m) (λ own. and_then (counted_of 1 args p m)
    (λ e. Ok (changes own.state.array 0 (words_after m own e) None)))

-- Checksum.doFinal: the checksum is put once these bytes follow, as one change; how many bytes it has is returned, and it is 0 from now on
unfoldable pub checksum_do_final : List Cell → Packages → MemoryState → Result EngineAnswer FrameExit
checksum_do_final args p m = and_then (running_checksum args p m) (λ own. and_then (counted_of 1 args p m) (λ e.
    and_then (output_of 4 (checksum_size own.algorithm) args p m) (λ to. Ok (changes_and_puts own.state.array 0
    (replicate (checksum_shorts own.algorithm) 0) to (bytes_of_shorts (words_after m own e)) (Some (pos (checksum_size own.algorithm)))))))
