-- How calls of the platform's methods are defined: what they may do, and what they answer.
use Rattle.std.specs.Prelude.{Option, Result, Ok, Err}
use Rattle.jc_heap.specs.declared.refusal.HeapRefusal.{HeapRefusal}
use Rattle.jc_frames.specs.declared.exceptions.Exception.{Exception}
use Rattle.jc_frames.specs.declared.outcome.Outcome.TheVariants.{Fault}
use Rattle.jc_frames.specs.declared.outcome.FrameExit.{FrameExit}
use Rattle.jc_frames.specs.declared.outcome.FrameExit.TheVariants as stop
use Rattle.jc_frames.specs.Frames.{if_some_else, if_ok_else}
use Rattle.jc_memory.specs.State.{MemoryState}
use Rattle.jc_memory.specs.Programs.{Program, Finish, unless_else}
use Rattle.jc_heap.specs.Completions.{Completion, Completed, Torn}
use Rattle.jc_world.specs.declared.native_result.NativeResult.{NativeResult}
use Rattle.jc_world.specs.declared.step_exit.StepExit.{StepExit}
use Rattle.jc_world.specs.declared.step_exit.StepExit.TheVariants.{Throw, End, Down}
use Rattle.jc_world.specs.StepExit.{exception_of}

-- what a call may do
abbrev pub NativeProgram : Type 0
NativeProgram = Program (Result NativeResult FrameExit)

abbrev pub return_value : NativeResult → NativeProgram
return_value a = Finish (Ok a)

abbrev pub throw_exception : Exception → NativeProgram
throw_exception e = Finish (Err (stop.Throw e))

-- a code fault
abbrev pub code_fault : NativeProgram
code_fault = Finish (Err (stop.End Fault))

-- with what is there; a code fault where nothing is
abbrev pub if_some : {A : Type 0} → Option A → (A → NativeProgram) → NativeProgram
if_some o go = if_some_else code_fault o go

-- with what a check gave; else it throws or ends the run
abbrev pub if_ok : {A : Type 0} → Result A FrameExit → (A → NativeProgram) → NativeProgram
if_ok check go = if_ok_else (λ e. Finish (Err e)) check go

-- unless there is a reason against a change, which is thrown
abbrev pub unless : Option HeapRefusal → NativeProgram → NativeProgram
unless refusal d = unless_else (λ reason. throw_exception (exception_of reason)) refusal d

-- how a call ends
abbrev pub after_call : Result NativeResult StepExit → MemoryState → Completion MemoryState (Result NativeResult FrameExit)
after_call (Ok a) m = Completed (Ok a) m
after_call (Err (Throw e)) m = Completed (Err (stop.Throw e)) m
after_call (Err (End o)) m = Completed (Err (stop.End o)) m
after_call (Err Down) m = Torn m
