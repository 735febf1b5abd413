-- Bytes that a call puts, with the state that it sets.
use Rattle.std.specs.Prelude.{ℕ, pos, List, length, Some, Result, Ok}
use Rattle.jc_frames.specs.declared.cell.Cell.{Cell}
use Rattle.jc_frames.specs.declared.outcome.FrameExit.{FrameExit}
use Rattle.jc_memory.specs.State.{MemoryState}
use Rattle.jc_linker.specs.Values.{Packages}
use Rattle.jc_world.specs.Answers.{and_then}
use Rattle.jc_api.specs.Changing.{EngineAnswer, changes_and_puts}
use Rattle.jc_api_keys.specs.Receivers.{output_for}

-- bytes are put into as many elements, as one change, and words of a state are set from the first on; the number of the bytes is returned
abbrev pub puts_output : ℕ → List ℕ → List ℕ → List Cell → Packages → MemoryState → Result EngineAnswer FrameExit
puts_output array words bytes args p m = and_then (output_for 4 (length bytes) args p m)
    (λ to. Ok (changes_and_puts array 0 words to bytes (Some (pos (length bytes)))))
