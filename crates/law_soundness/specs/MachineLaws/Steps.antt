-- Instructions, calls, returns and exceptions leave a memory sound.
use Rattle.std.specs.Prelude.{ℕ, ◌≡◌, ◌==◌, ◌||◌, not, Bool, true, false, List, Some, Ok}
use Rattle.jc_frames.specs.declared.instr.Instr.{Instr}
use Rattle.jc_frames.specs.declared.instr.Instr.TheVariants as instr
use Rattle.jc_frames.specs.declared.instr.InvokeOp.{InvokeOp}
use Rattle.jc_frames.specs.declared.instr.ReturnOp.{ReturnOp}
use Rattle.jc_frames.specs.declared.cell.Cell.{Cell}
use Rattle.jc_frames.specs.declared.method.CallKind.TheVariants.{Instruction}
use Rattle.jc_frames.specs.declared.exceptions.Exception.{Exception}
use Rattle.jc_frames.specs.Calls.{arguments_on}
use Rattle.jc_frames.specs.Frames.{Frames}
use Rattle.jc_memory.specs.State.{MemoryState}
use Rattle.jc_memory.specs.Reading.{AllDue}
use Rattle.jc_platform.specs.declared.names.PlatformMethod.{PlatformMethod}
use Rattle.jc_linker.specs.declared.target.Method.TheVariants.{Code, Native}
use Rattle.jc_linker.specs.Values.{Packages}
use Rattle.jc_interp.specs.Natives.{native_call}
use Rattle.jc_instructions.specs.declared.invoke.MethodCall.{MethodCall}
use Rattle.jc_instructions.specs.declared.enter.Callee.{Callee}
use Rattle.jc_instructions.specs.ServerCall.{server_call}
use Rattle.jc_instructions.specs.Invoke.{method_selection}
use Rattle.jc_instructions.specs.Enter.{method_entry}
use Rattle.jc_instructions.specs.MethodReturn.{method_return}
use Rattle.jc_instructions.specs.Throw.{athrow, exception_throw}
use Rattle.jc_interp.specs.Step.{instruction_at, is_plain}
use Rattle.jc_world.specs.declared.native_result.ServerCall.{ServerCall}
use Rattle.law_code.specs.Classes.{HasAids, KnowsClasses}
use Rattle.law_soundness.specs.MemoryLaws.Fit.{IsFit}
use Rattle.law_soundness.specs.MemoryLaws.State.{IsSoundMemory, is_owner_up_to, most_owner}
use Rattle.law_soundness.specs.Machines.{IsSoundMachine, KnowOwners}
use Rattle.law_code.specs.Methods.{KnowsMethods}

-- a method in bytecode that a call reaches
abbrev pub callee_of : MethodCall → ℕ → ℕ → Callee
callee_of c number offset = record { package_number = number; offset = offset; arguments = c.arguments; switches_to = c.switches_to }

-- over packages that were linked, the method of a package that runs in a sound machine selects a method by this instruction
pub record IsSoundInvoke (i : InvokeOp) (c : MethodCall) (p : Packages) (s : Frames) (m : MemoryState) : Type 0 where
  pub classes : KnowsClasses p
  pub aids : HasAids p
  pub methods : KnowsMethods p
  pub machine : IsSoundMachine p s m
  pub home : s.current.origin.package_number == 0 ≡ false
  pub selected : method_selection i p s m ≡ Ok c

-- what such a call does is fit: each effect of the platform's method that is reached, or as the frame of one in bytecode begins
pub record CallsFit : Type 0 where
  pub natively : (i : InvokeOp) (c : MethodCall) (method : PlatformMethod) (args : List Cell) (p : Packages) (s : Frames) (m : MemoryState)
      → IsSoundInvoke i c p s m → c.method ≡ Native method → arguments_on c.arguments s.current.stack ≡ Some args
      → AllDue (IsFit p) (native_call method args p m) m
  pub entered : (i : InvokeOp) (c : MethodCall) (number offset place : ℕ) (p : Packages) (s : Frames) (m : MemoryState)
      → IsSoundInvoke i c p s m → c.method ≡ Code number offset
      → AllDue (IsFit p) (method_entry (callee_of c number offset) (record { place = place; kind = Instruction }) p s m) m

-- over packages that were linked the memory is sound, and the owners of the callers are known
pub record HasSoundCallers (p : Packages) (s : Frames) (m : MemoryState) : Type 0 where
  pub methods : KnowsMethods p
  pub sound : IsSoundMemory p m
  pub callers : KnowOwners s.callers m

-- then each effect of a return and of an exception fits: one of an instruction, or one of the runtime environment
pub record LeavesFit : Type 0 where
  pub returns : (how : ReturnOp) (p : Packages) (s : Frames) (m : MemoryState) → HasSoundCallers p s m → AllDue (IsFit p) (method_return how s m) m
  pub throws : (place : ℕ) (p : Packages) (s : Frames) (m : MemoryState) → HasSoundCallers p s m → AllDue (IsFit p) (athrow place p s m) m
  pub thrown : (e : Exception) (place : ℕ) (p : Packages) (s : Frames) (m : MemoryState) → HasSoundCallers p s m
      → AllDue (IsFit p) (exception_throw e place p s m) m

-- the runtime environment asks a server whose applet is known: each effect fits, as the frame of the server's method begins
abbrev pub AsksFit : Type 0
AsksFit = (asked : ServerCall) (place : ℕ) (p : Packages) (s : Frames) (m : MemoryState) → KnowsMethods p → IsSoundMemory p m
    → is_owner_up_to (most_owner m) m.heap.now asked.owner.0 ≡ true → AllDue (IsFit p) (server_call asked place p s m) m

-- an instruction that calls a method
abbrev pub calls : Instr → Bool
calls (instr.Invoke method) = true
calls i = false

-- in a sound machine each effect of an instruction that calls no method fits: of any in a package's method, and of a plain one in code
-- that was lent
abbrev pub InstructionsFit : Type 0
InstructionsFit = (i : Instr) (code : List ℕ) (place : ℕ) (p : Packages) (s : Frames) (m : MemoryState) → KnowsClasses p → KnowsMethods p → IsSoundMachine p s m
    → calls i ≡ false →
    (is_plain i || not (s.current.origin.package_number == 0)) ≡ true → AllDue (IsFit p) (instruction_at i code place p s m) m
