-- How instructions are defined: what they may do, and what follows.
use Rattle.std.specs.Prelude.{Option, Result, Ok, Err, []}
use Rattle.jc_heap.specs.declared.refusal.HeapRefusal.{HeapRefusal}
use Rattle.jc_frames.specs.declared.outcome.Outcome.TheVariants.{Fault}
use Rattle.jc_frames.specs.declared.outcome.FrameExit.{FrameExit}
use Rattle.jc_frames.specs.declared.outcome.FrameExit.TheVariants as stop
use Rattle.jc_frames.specs.Frames.{Frames, Next, GoesOn, Throws, Ends, if_some_else, if_ok_else, with_stack}
use Rattle.jc_memory.specs.State.{MemoryState}
use Rattle.jc_memory.specs.Programs.{Program, Finish, unless_else}
use Rattle.jc_heap.specs.Completions.{Completion, Completed, Torn}
use Rattle.jc_world.specs.declared.step_exit.StepExit.{StepExit}
use Rattle.jc_world.specs.declared.step_exit.StepExit.TheVariants.{Throw, End, Down}
use Rattle.jc_world.specs.StepExit.{exception_of}

-- the frames go on
abbrev pub continue_with : Frames → Program (Next Frames)
continue_with s = Finish (GoesOn s)

-- with what is there; a code fault where nothing is
abbrev pub if_some : {A : Type 0} → Option A → (A → Program (Next Frames)) → Program (Next Frames)
if_some o go = if_some_else (Finish (Ends Fault)) o go

-- what follows of a check
abbrev pub exit_of : Frames → FrameExit → Program (Next Frames)
exit_of s (stop.Throw e) = Finish (Throws e (with_stack s []))
exit_of s (stop.End o) = Finish (Ends o)

-- with what a check gave; else it throws or ends the run
abbrev pub if_ok : {A : Type 0} → Frames → Result A FrameExit → (A → Program (Next Frames)) → Program (Next Frames)
if_ok s check go = if_ok_else (exit_of s) check go

-- unless there is a reason against a change, which is thrown
abbrev pub unless : Frames → Option HeapRefusal → Program (Next Frames) → Program (Next Frames)
unless s refusal d = unless_else (λ reason. Finish (Throws (exception_of reason) (with_stack s []))) refusal d

-- how an instruction ends
abbrev pub after_instruction : Result (Unit {0}) StepExit → Frames → MemoryState → Completion MemoryState (Next Frames)
after_instruction (Ok u) s m = Completed (GoesOn s) m
after_instruction (Err (Throw e)) s m = Completed (Throws e (with_stack s [])) m
after_instruction (Err (End o)) s m = Completed (Ends o) m
after_instruction (Err Down) s m = Torn m
