-- A form of calls: a constructor that sets the first cells of the object that it is called on.
use Rattle.std.specs.Prelude.{ℕ, List, length, Result}
use Rattle.jc_frames.specs.declared.cell.Cell.{Cell}
use Rattle.jc_frames.specs.declared.outcome.FrameExit.{FrameExit}
use Rattle.jc_memory.specs.Cells.{cells_effect, cells_refusal}
use Rattle.jc_memory.specs.Programs.{Perform}
use Rattle.jc_memory.specs.State.{MemoryState}
use Rattle.jc_world.specs.Instances.{instance_at}
use Rattle.jc_world.specs.NativeCalls.{NativeProgram, if_ok, if_some, return_value, unless}
use Rattle.jc_world.specs.Objects.{reference_argument}
use Rattle.jc_world.specs.declared.native_result.NativeResult.TheVariants.{ReturnVoid}
use Rattle.jc_api.specs.Exits.{plainly}

-- what such a call does: it reads, and answers words for the first cells of its object. The form itself asks for that object, the receiver of the
-- call, an instance with as many cells: null throws, and anything else is a code fault. A call that asked before gets the same object, and no answer
-- can name another. Then it asks for room, and sets the cells as one change
abbrev pub constructing_call : Result (List ℕ) FrameExit → List Cell → MemoryState → NativeProgram
constructing_call answer args m = if_ok (plainly answer) (λ words. if_some (reference_argument args 0) (λ own.
    if_ok (instance_at m own (length words)) (λ f.
    unless (cells_refusal m own 0 words) (Perform (cells_effect m own 0 words) (return_value ReturnVoid)))))
