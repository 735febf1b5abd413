-- Calls.
use Rattle.std.proofs.Common.{◌≡◌, true, List, Some, refl, ap}
use Rattle.jc_transient.specs.declared.owner.Owner.{Owner}
use Rattle.jc_transient.specs.Owners.{owner_number}
use Rattle.jc_memory.specs.State.{MemoryState}
use Rattle.jc_platform.specs.declared.names.PlatformMethod.{PlatformMethod}
use Rattle.jc_linker.specs.declared.target.Method.TheVariants.{Native}
use Rattle.jc_linker.specs.Values.{Packages}
use Rattle.jc_frames.specs.declared.cell.Cell.{Cell}
use Rattle.jc_frames.specs.declared.method.CallKind.TheVariants.{Instruction}
use Rattle.jc_frames.specs.Calls.{arguments_on}
use Rattle.jc_frames.specs.declared.instr.InvokeOp.{InvokeOp}
use Rattle.jc_frames.specs.Frames.{Frames}
use Rattle.jc_instructions.specs.declared.invoke.MethodCall.{MethodCall}
use Rattle.jc_instructions.specs.declared.enter.CallSite.{CallSite}
use Rattle.jc_instructions.specs.Enter.{method_entry, registers_in_callee}
use Rattle.jc_instructions.specs.ServerCall.{server_call}
use Rattle.jc_api.proofs.Due.{due_of}
use Rattle.law_code.proofs.Walk.{AnyCell, EntersPass, asking, entering}
use Rattle.law_soundness.specs.MemoryLaws.Fit.{IsFit}
use Rattle.law_soundness.specs.MemoryLaws.State.{IsSoundMemory, is_owner_up_to, most_owner}
use Rattle.law_soundness.specs.MachineLaws.Natives.{IsReceiver}
use Rattle.law_soundness.proofs.Natives.{natives_are_fit}
use Rattle.law_code.specs.Methods.{KnowsMethods}
use Rattle.law_soundness.specs.MachineLaws.Steps.{AsksFit, CallsFit, IsSoundInvoke, callee_of}
use Rattle.law_soundness.proofs.Arguments.{receiver_first}
use Rattle.law_soundness.proofs.LivingReferences.{arguments_living}
use Rattle.law_soundness.proofs.Receivers.{aid_minds}
use Rattle.law_soundness.proofs.Owners.{turn_known}
use Rattle.law_soundness.proofs.Receivers.{IsFitCall, chosen_fit}

-- the owner is known
abbrev pub IsKnown : Owner → MemoryState → Type 0
IsKnown owner m = is_owner_up_to (most_owner m) m.heap.now (owner_number owner) ≡ true

module _ (p : Packages) (m : MemoryState) (methods : KnowsMethods p) (sound : IsSoundMemory p m) where
  -- an owner that a call switches to is known
  enters_pass : (s : Frames) → EntersPass (IsFit p) AnyCell (λ next v. Unit {0}) IsKnown s m
  enters_pass s = record {
    faults = tt;
    null = tt;
    enters = λ e same. tt;
    switches = λ owner t known next. (turn_known p m methods sound (registers_in_callee (Some owner) m.registers) refl refl known, tt);
    arguments = λ asked next so server client. tt;
  }

  -- a method that minds it is called on an object of its class
  pub is_receiver : (stack args : List Cell) (c : MethodCall) (method : PlatformMethod) → IsFitCall p m stack c → c.method ≡ Native method
      → arguments_on c.arguments stack ≡ Some args → IsReceiver p m method args
  is_receiver stack args c method fit is are = record {
    instance = λ minds r on. (fit.on method is minds r (receiver_first c.arguments stack args r are on)).instance;
    class = λ minds r on. (fit.on method is minds r (receiver_first c.arguments stack args r are on)).class;
    owned = λ aid r on. (fit.on method is (aid_minds method aid) r (receiver_first c.arguments stack args r are on)).owned aid;
  }

pub selected_fit : (i : InvokeOp) (c : MethodCall) (p : Packages) (s : Frames) (m : MemoryState) → IsSoundInvoke i c p s m → IsFitCall p m s.current.stack c
selected_fit i c p s m given = chosen_fit p m s given.classes given.methods given.machine.sound given.machine.environment.now.first
    (λ runs. given.machine.code given.home (ap owner_number runs)) i c given.selected

pub calls_are_fit : CallsFit
calls_are_fit = record {
  natively = λ i c method args p s m given is are. natives_are_fit method args p m (record {
    classes = given.classes;
    aids = given.aids;
    sound = given.machine.sound;
    steady = given.machine.steady;
    environment = given.machine.environment;
    receiver = is_receiver p m given.methods given.machine.sound s.current.stack args c method (selected_fit i c p s m given) is are;
    living = arguments_living m.heap.now c.arguments s.current.stack args given.machine.living.current.stack are;
  });
  entered = λ i c number offset place p s m given is.
      let at : CallSite = record { place = place; kind = Instruction } in
      due_of (IsFit p) (λ next v. Unit {0}) (method_entry (callee_of c number offset) at p s m) m
      (entering (IsFit p) AnyCell (λ next v. Unit {0}) IsKnown p s m (enters_pass p m given.methods given.machine.sound s) _ at (selected_fit i c p s m given).switches);
}

pub asks_are_fit : AsksFit
asks_are_fit asked place p s m methods sound known = due_of (IsFit p) (λ next v. Unit {0}) (server_call asked place p s m) m
    (asking (IsFit p) AnyCell (λ next v. Unit {0}) IsKnown p s m (enters_pass p m methods sound s) asked place known tt tt)
