-- A virtual call that runs the method of the platform that its entry names, and what it answered.
use Rattle.std.proofs.Common.{◌≡◌, ℕ, ◌==◌, arith, List, Option, true, drop, Some, Ok, Result, subst}
use Rattle.jc_heap.specs.Completions.{Completion, Completed}
use Rattle.jc_memory.specs.State.{MemoryState}
use Rattle.jc_memory.specs.Programs.{Executes}
use Rattle.jc_memory.proofs.ProgramLemmas.{bind_made}
use Rattle.jc_platform.specs.declared.names.PlatformMethod.{PlatformMethod}
use Rattle.jc_platform.specs.Signatures.{argument_cells}
use Rattle.jc_linker.specs.declared.target.Target.{Target}
use Rattle.jc_linker.specs.Lookups.{target_at}
use Rattle.jc_linker.specs.Values.{Packages}
use Rattle.jc_frames.specs.declared.instr.InvokeOp.TheVariants.{Virtual}
use Rattle.jc_frames.specs.declared.cell.Cell.{Cell}
use Rattle.jc_frames.specs.declared.outcome.FrameExit.{FrameExit}
use Rattle.jc_frames.specs.Calls.{arguments_on}
use Rattle.jc_frames.specs.Frames.{Frames, Next, with_stack}
use Rattle.jc_world.specs.declared.native_result.NativeResult.{NativeResult}
use Rattle.jc_instructions.specs.Invoke.{ChoosesOfPlatform, method_selection, virtual_by}
use Rattle.jc_interp.specs.Natives.{native_call}
use Rattle.jc_interp.specs.Calling.{after_native, after_native_return, invoke_instruction, native_invoke}

itself : (n : ℕ) → (n == n) ≡ true
itself n = grind arith

pub invoked : (index place : ℕ) (entry : Target) (method : PlatformMethod) (args : List Cell) (answer : NativeResult) (p : Packages) (s : Frames)
    (m mid : MemoryState) (after : Completion MemoryState (Next Frames)) → Some entry ≡ target_at p s.current.origin.package_number index
    → ChoosesOfPlatform (virtual_by (Some entry) p s.current.stack m) method → arguments_on (argument_cells method) s.current.stack ≡ Some args
    → Executes (native_call method args p m) m (Completed (Ok answer) mid)
    → Executes (after_native_return answer place p (with_stack s (drop (argument_cells method) s.current.stack)) mid) mid after
    → Executes (invoke_instruction (Virtual index) place p s m) m after
unfolding invoke_instruction method_selection native_invoke
invoked index place entry method args answer p s m mid after is chosen here made rest =
    let found = subst (λ (t : Option Target). ChoosesOfPlatform (virtual_by t p s.current.stack m) method) is chosen in
    rw (found.1, itself (argument_cells method), here) (bind_made (λ (result : Result NativeResult FrameExit) v.
    after_native result place p (with_stack s (drop (argument_cells method) s.current.stack)) v) (native_call method args p m) m mid (Ok answer) after made rest)
