-- Returns: the caller goes on, for whom it ran before.
use Rattle.std.specs.Prelude.{Option, Some, None}
use Rattle.jc_memory.specs.declared.registers.Registers.{Registers}
use Rattle.jc_memory.specs.State.{MemoryState, SetRegisters}
use Rattle.jc_memory.specs.Programs.{Program, Finish, Perform}
use Rattle.jc_frames.specs.declared.instr.ReturnOp.{ReturnOp}
use Rattle.jc_frames.specs.declared.cell.Cell.{Cell}
use Rattle.jc_frames.specs.declared.method.ReturnPoint.{ReturnPoint}
use Rattle.jc_frames.specs.Frames.{Frames, Next, Ends, in_frame}
use Rattle.jc_frames.specs.Calls.{frames_after_return, outcome_of, frames_with_result}
use Rattle.jc_frames.specs.ReturnOps.{returned_cell}
use Rattle.jc_world.specs.Instructions.{if_some}

-- the registers as they were before a call
abbrev pub registers_of_caller : ReturnPoint → Registers → Registers
registers_of_caller resume r = record r { active = resume.active; previous = resume.previous }

-- areturn, sreturn, return: the caller goes on with the result, for whom it ran before, or the run ends with it
abbrev pub return_to_caller : Option Cell → Option (ReturnPoint × Frames) → MemoryState → Program (Next Frames)
return_to_caller value None m = Finish (Ends (outcome_of value))
return_to_caller value (Some p) m = Perform (SetRegisters (registers_of_caller p.0 m.registers))
    (Finish (in_frame p.1 (frames_with_result p.0.call value p.1.current)))

-- the end of a method
unfoldable pub method_return : ReturnOp → Frames → MemoryState → Program (Next Frames)
method_return how s m = if_some (returned_cell how s.current.stack) (λ value. return_to_caller value (frames_after_return s.callers) m)
