-- Objects of the platform with a state, as their calls find them.
use Rattle.std.specs.Int.{cast_signed, w16}
use Rattle.std.specs.Prelude.{ℕ, ◌+◌, pos, if◌then◌else◌, List, Option, Some, None, Result, Ok, Err}
use Rattle.jc_heap.specs.declared.object.Facts.{Facts}
use Rattle.jc_frames.specs.declared.cell.Cell.{Cell}
use Rattle.jc_frames.specs.declared.outcome.FrameExit.{FrameExit}
use Rattle.jc_frames.specs.declared.outcome.FrameExit.TheVariants.{End, Throw}
use Rattle.jc_frames.specs.declared.outcome.Outcome.TheVariants.{Fault}
use Rattle.jc_memory.specs.Cells.{short_at, word_at, words_at}
use Rattle.jc_memory.specs.State.{MemoryState}
use Rattle.jc_platform.specs.NamePlaces.{class_word}
use Rattle.jc_platform.specs.declared.names.PlatformClass.{PlatformClass}
use Rattle.jc_linker.specs.Values.{Packages}
use Rattle.jc_world.specs.Answers.{and_then}
use Rattle.jc_world.specs.Instances.{instance_at}
use Rattle.jc_world.specs.Objects.{is_instance_of, reference_argument, short_argument, some_or_fault}
use Rattle.jc_world.specs.declared.arrays.Stretch.{Stretch}
use Rattle.jc_api.specs.Arguments.{elements_at}
use Rattle.jc_api_keys.specs.Exceptions.{no_such_algorithm}
use Rattle.jc_api_keys.specs.Shorts.{bytes_of_shorts}
use Rattle.jc_api_keys.specs.declared.receivers.Receiver.{Receiver}

-- what its two cells say, if it is of this class: the number of its algorithm, and the array of its state
abbrev pub receiver_in : PlatformClass → Packages → MemoryState → ℕ → Facts → Result Receiver FrameExit
receiver_in class p m own f = if is_instance_of p f (class_word p.platform class)
    then Ok (record { own = own; number = short_at m own 0; array = word_at m own 1 }) else Err (End Fault)

-- the receiver of a call: null throws, and anything but an instance of the class is a code fault
unfoldable pub receiver_of : PlatformClass → List Cell → Packages → MemoryState → Result Receiver FrameExit
receiver_of class args p m = and_then (some_or_fault (reference_argument args 0)) (λ own. and_then (instance_at m own 2) (receiver_in class p m own))

-- the bytes of a state
abbrev pub bytes_of_state : MemoryState → Stretch → List ℕ
bytes_of_state m e = bytes_of_shorts (words_at m e.array e.start e.count)

-- this many elements of an array of bytes with an offset, from a place among the arguments on
unfoldable pub output_of : ℕ → ℕ → List Cell → Packages → MemoryState → Result Stretch FrameExit
output_of i count args p m = and_then (some_or_fault (reference_argument args i)) (λ array. and_then (some_or_fault (short_argument args (i + 1)))
    (λ start. elements_at p m array start (pos count)))

-- the same for a number of elements that may be more than an array has
unfoldable pub output_for : ℕ → ℕ → List Cell → Packages → MemoryState → Result Stretch FrameExit
output_for i count args p m = and_then (some_or_fault (reference_argument args i)) (λ array. and_then (some_or_fault (short_argument args (i + 1)))
    (λ start. elements_at p m array start (cast_signed w16 count)))

-- what a number names, or what throws
abbrev pub named_or_throw : {A : Type 0} → Option A → Result A FrameExit
named_or_throw None = Err (Throw no_such_algorithm)
named_or_throw (Some a) = Ok a
