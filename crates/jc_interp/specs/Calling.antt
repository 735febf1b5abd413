-- Calls: methods of the platform are carried out at once, those in bytecode get a frame.
use Rattle.std.specs.Prelude.{ℕ, Bool, true, false, ◌==◌, drop, Result, Ok, Err, if◌then◌else◌}
use Rattle.jc_memory.specs.State.{MemoryState}
use Rattle.jc_memory.specs.Programs.{Program, Finish, bind}
use Rattle.jc_platform.specs.declared.names.PlatformMethod.{PlatformMethod}
use Rattle.jc_linker.specs.declared.target.Method.{Method}
use Rattle.jc_linker.specs.declared.target.Method.TheVariants.{Code, Native}
use Rattle.jc_linker.specs.Values.{Packages}
use Rattle.jc_frames.specs.declared.instr.InvokeOp.{InvokeOp}
use Rattle.jc_frames.specs.declared.method.CallKind.TheVariants.{Instruction}
use Rattle.jc_frames.specs.declared.outcome.Outcome.TheVariants.{Fault}
use Rattle.jc_frames.specs.declared.outcome.FrameExit.{FrameExit}
use Rattle.jc_frames.specs.Calls.{arguments_on, frames_without_dead}
use Rattle.jc_frames.specs.Frames.{Frames, Next, Ends, in_frame, push, with_stack}
use Rattle.jc_world.specs.declared.native_result.NativeResult.{NativeResult}
use Rattle.jc_world.specs.declared.native_result.NativeResult.TheVariants.{ReturnVoid, ReturnValue, CallServer, Aborted}
use Rattle.jc_world.specs.declared.step_exit.StepExit.{StepExit}
use Rattle.jc_world.specs.Instructions.{continue_with, if_ok, if_some, exit_of}
use Rattle.jc_instructions.specs.declared.invoke.MethodCall.{MethodCall}
use Rattle.jc_instructions.specs.ServerCall.{server_call}
use Rattle.jc_instructions.specs.Invoke.{invokestatic, method_selection}
use Rattle.jc_instructions.specs.Enter.{method_entry}
use Rattle.jc_platform.specs.Signatures.{argument_cells}
use Rattle.jc_interp.specs.Natives.{native_call}

-- what a method of the platform answered, that the instruction at a place called, to frames from which its arguments were
-- taken: nothing; a value; a server is asked for it; or a transaction was taken back, and references to what it made become null
abbrev pub after_native_return : NativeResult → ℕ → Packages → Frames → MemoryState → Program (Next Frames)
after_native_return ReturnVoid place p s m = continue_with s
after_native_return (ReturnValue cell) place p s m = Finish (in_frame s (push cell s.current))
after_native_return (CallServer asked) place p s m = server_call asked place p s m
after_native_return Aborted place p s m = continue_with (frames_without_dead m.heap.now.top s)

-- its answer, or what it threw
abbrev pub after_native : Result NativeResult FrameExit → ℕ → Packages → Frames → MemoryState → Program (Next Frames)
after_native (Ok answer) place p s m = after_native_return answer place p s m
after_native (Err stop) place p s m = exit_of s stop

-- a method of the platform, with this many cells as arguments, called by the instruction at a place
unfoldable pub native_invoke : PlatformMethod → ℕ → ℕ → Packages → Frames → MemoryState → Program (Next Frames)
native_invoke method n place p s m =
    if n == argument_cells method then if_some (arguments_on n s.current.stack) (λ arguments. bind (native_call method arguments p m) m (λ result v.
    after_native result place p (with_stack s (drop n s.current.stack)) v)) else Finish (Ends Fault)

-- the method that was chosen, called by the instruction at a place
abbrev pub invoke_selected : Method → MethodCall → ℕ → Packages → Frames → MemoryState → Program (Next Frames)
invoke_selected (Code number offset) c place p s m = method_entry (record {
  package_number = number;
  offset = offset;
  arguments = c.arguments;
  switches_to = c.switches_to;
}) (record { place = place; kind = Instruction }) p s m
invoke_selected (Native method) c place p s m = native_invoke method c.arguments place p s m

-- a static call of this method by the instruction at a place
abbrev pub static_invoke : Method → ℕ → Packages → Frames → MemoryState → Program (Next Frames)
static_invoke method place p s m = if_ok s (invokestatic method p) (λ c. invoke_selected c.method c place p s m)

-- a call by the instruction at a place
unfoldable pub invoke_instruction : InvokeOp → ℕ → Packages → Frames → MemoryState → Program (Next Frames)
invoke_instruction invoke place p s m = if_ok s (method_selection invoke p s m) (λ c. invoke_selected c.method c place p s m)

-- how a call ended that says whether code goes on, and left its exit where it does not
abbrev pub ended : Bool → StepExit → Result (Unit {0}) StepExit
ended true exit = Ok tt
ended false exit = Err exit
