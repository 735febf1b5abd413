-- Why code runs for another owner.
use Rattle.std.specs.Prelude.{ℕ, ◌≡◌, ◌⊎◌, List, ◌∷◌, ◌++◌, map, Some, Ok}
use Rattle.jc_heap.specs.declared.object.Facts.{Facts}
use Rattle.jc_heap.specs.Moves.{AddPackage}
use Rattle.jc_transient.specs.declared.owner.Owner.{Owner}
use Rattle.jc_transient.specs.declared.owner.Owner.TheVariants.{Applet}
use Rattle.jc_memory.specs.declared.registers.Registers.{Registers}
use Rattle.jc_transient.specs.Owners.{owner_of}
use Rattle.jc_memory.specs.Reading.{AllDue, AllResults, HasTrace}
use Rattle.jc_memory.specs.State.{MemoryState, Effect, HeapMove, ClearTransient, SetRegisters, BeginCommand, apply_effects}
use Rattle.jc_platform.specs.declared.names.PlatformMethod.{PlatformMethod}
use Rattle.jc_linker.specs.declared.target.Method.TheVariants.{Native}
use Rattle.jc_linker.specs.Values.{Packages}
use Rattle.jc_firewall.specs.declared.access.Access.{Access}
use Rattle.jc_firewall.specs.declared.decide.Decision.TheVariants.{Switch}
use Rattle.jc_firewall.specs.declared.subject.Context.{Context}
use Rattle.jc_frames.specs.declared.cell.Cell.{Cell}
use Rattle.jc_frames.specs.declared.method.ReturnPoint.{ReturnPoint}
use Rattle.jc_frames.specs.Calls.{arguments_on}
use Rattle.jc_frames.specs.Frames.{Caller, Frames, Next, GoesOn, Throws, Ends}
use Rattle.jc_world.specs.Contexts.{firewall_decision, installed_package}
use Rattle.jc_world.specs.declared.native_result.NativeResult.TheVariants.{CallServer}
use Rattle.jc_world.specs.declared.native_result.ServerCall.{ServerCall}
use Rattle.jc_instructions.specs.declared.invoke.MethodCall.{MethodCall}
use Rattle.jc_instructions.specs.Enter.{registers_in_callee}
use Rattle.jc_instructions.specs.Invoke.{receiver_of}
use Rattle.jc_instructions.specs.MethodReturn.{registers_of_caller}
use Rattle.jc_interp.specs.Natives.{native_call}
use Rattle.jc_interp.specs.Step.{machine_step}
use Rattle.law_code.specs.IsolationLaws.Steps.{IsCalled}

-- the instruction calls a method on an object in another context, which the firewall answers with a switch to it
pub record IsSwitchingCall (lent : List ℕ) (p : Packages) (s : Frames) (m : MemoryState) (owner : Owner) : Type 0 where
  pub call : MethodCall
  pub called : IsCalled lent p s m call
  pub count : ℕ
  pub receiver : Facts
  pub there : receiver_of count s.current.stack m ≡ Ok receiver
  pub access : Access
  pub context : Context
  pub decided : firewall_decision access p m receiver ≡ Switch context
  pub runs_for : owner ≡ owner_of receiver.owner

-- it calls a method of the platform which answers, after some effects, that a server is to be asked
pub record AsksServer (lent : List ℕ) (p : Packages) (s : Frames) (m : MemoryState) (owner : Owner) (n : MemoryState) : Type 0 where
  pub call : MethodCall
  pub called : IsCalled lent p s m call
  pub method : PlatformMethod
  pub native : call.method ≡ Native method
  pub arguments : List Cell
  pub given : arguments_on call.arguments s.current.stack ≡ Some arguments
  pub effects : List Effect
  pub asked : ServerCall
  pub answered : HasTrace (native_call method arguments p m) m effects (Ok (CallServer asked))
  pub behind : n ≡ apply_effects effects m
  pub runs_for : owner ≡ Applet asked.owner

-- what returns come back to, the nearest first
abbrev pub return_points : Frames → List ReturnPoint
return_points s = map (λ (c : Caller). c.resume) s.callers

-- why a step sets registers, for which code then runs: a method is called by a switch, or a server is asked, and its code runs for the
-- object's owner, or for the server; or a method ended, by a return or an exception, and code runs for whom one of its callers ran
pub data Cause (lent : List ℕ) (p : Packages) (s : Frames) (m : MemoryState) (g : Registers) (n : MemoryState) : Type 0 where
  Called : (owner : Owner) → IsSwitchingCall lent p s m owner → n ≡ m → g ≡ registers_in_callee (Some owner) n.registers → Cause lent p s m g n
  Asked : (owner : Owner) → AsksServer lent p s m owner n → g ≡ registers_in_callee (Some owner) n.registers → Cause lent p s m g n
  Left : (inner outer : List ReturnPoint) (point : ReturnPoint) → return_points s ≡ inner ++ (point ∷ outer) → g ≡ registers_of_caller point n.registers
      → Cause lent p s m g n

-- what a step does: registers are set for the same owner, or for such a cause, and in the same installation; and it clears nothing, begins
-- no command and adds no package
abbrev pub IsOfStep : List ℕ → Packages → Frames → MemoryState → Effect → MemoryState → Type 0
IsOfStep lent p s m (SetRegisters g) n = ((g.active ≡ n.registers.active) ⊎ Cause lent p s m g n) × (installed_package g.installation
    ≡ installed_package n.registers.installation)
IsOfStep lent p s m (HeapMove (AddPackage components arrays image)) n = ⊥
IsOfStep lent p s m (ClearTransient event) n = ⊥
IsOfStep lent p s m (BeginCommand bytes) n = ⊥
IsOfStep lent p s m e n = Unit {0}

-- the callers are some of those that there were, the nearest of which were left
abbrev pub HasLeft : Frames → Frames → Type 0
HasLeft s t = (inner : List ReturnPoint) × (return_points s ≡ inner ++ return_points t)

-- there is one more, and code will run again for whom it ran as it called
abbrev pub HasEntered : Frames → MemoryState → Frames → Type 0
HasEntered s m t = (point : ReturnPoint) × (return_points t ≡ point ∷ return_points s) × (point.active ≡ m.registers.active)

-- what follows a step has such callers
abbrev pub FollowsWithin : Frames → MemoryState → Next Frames → Type 0
FollowsWithin s m (GoesOn t) = HasLeft s t ⊎ HasEntered s m t
FollowsWithin s m (Throws e t) = HasLeft s t
FollowsWithin s m (Ends o) = Unit {0}

-- so it is of each step, of whatever code, in whatever frames and memory
pub record SwitchesHaveCauses : Type 0 where
  pub each : (lent : List ℕ) (p : Packages) (s : Frames) (m : MemoryState) → AllDue (IsOfStep lent p s m) (machine_step lent p s m) m
  pub next : (lent : List ℕ) (p : Packages) (s : Frames) (m : MemoryState) → AllResults (machine_step lent p s m) m (λ next n. FollowsWithin s m next)
