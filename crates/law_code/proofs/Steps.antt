-- Steps spare what is outside reach.
use Rattle.std.proofs.Common.{◌≡◌, true, List, Some, inl, inr, sym, ◌∙◌, subst, arith}
use Rattle.std.specs.Prelude.{pos}
use Rattle.jc_heap.specs.Heap.{facts}
use Rattle.jc_memory.specs.State.{MemoryState}
use Rattle.jc_platform.specs.declared.names.PlatformMethod.{PlatformMethod}
use Rattle.jc_linker.specs.declared.target.Method.TheVariants.{Native}
use Rattle.jc_linker.specs.Values.{Packages}
use Rattle.jc_frames.specs.declared.cell.Cell.{Cell}
use Rattle.jc_frames.specs.declared.cell.Cell.TheVariants.{Short}
use Rattle.jc_frames.specs.Calls.{arguments_on}
use Rattle.jc_firewall.specs.FirewallLaws.{IsInReach}
use Rattle.jc_world.specs.Contexts.{situation_of}
use Rattle.jc_instructions.specs.declared.invoke.MethodCall.{MethodCall}
use Rattle.jc_interp.specs.Step.{at_place}
use Rattle.jc_platform.specs.Signatures.{sets_receiver}
use Rattle.law_code.specs.IsolationLaws.Natives.{ReachesCalled}
use Rattle.law_code.specs.IsolationLaws.SparingEffects.{LeavesObject}
use Rattle.law_code.specs.IsolationLaws.Steps.{StepsSpare}
use Rattle.law_code.proofs.Facts.{sets_minds, static_minds_none}
use Rattle.law_code.proofs.Groups.{arrays_pass, fields_pass, instances_pass}
use Rattle.law_code.proofs.Natives.{natives_spare}
use Rattle.law_code.proofs.Receivers.{IsFit, chosen_fit, first_argument}
use Rattle.law_code.proofs.Walk.{step_due}

-- what sets cells of its receiver is called on an object within reach
reaches_called : (p : Packages) (m : MemoryState) (stack args : List Cell) (c : MethodCall) (method : PlatformMethod) → IsFit p m stack c
    → c.method ≡ Native method → arguments_on c.arguments stack ≡ Some args → sets_receiver method ≡ true → ReachesCalled args p m
reaches_called p m stack args c method (inl own) is are sets = λ r there.
    subst (λ k. IsInReach (situation_of p m (facts m.heap.now k))) (sym (first_argument c.arguments stack args own.receiver r (Short (pos 0)) own.on are there))
    own.reach
reaches_called p m stack args c method (inr static) is are sets = absurd (static_minds_none method (static method is).0 (static method is).1 (sets_minds method sets))

pub steps_spare : StepsSpare
steps_spare lent p s m q statics out stays = step_due (LeavesObject q) lent p s m (record {
  fields = fields_pass p m q out;
  arrays = arrays_pass p m q out;
  instances = instances_pass p m q out;
  turns = λ g n. tt;
  reasons = λ r v n own some. ((λ same. out.others (own.0, sym same ∙ own.1)), omega (arith, some));
  calls = λ c method args called is are. natives_spare method args p m q out
      (reaches_called p m s.current.stack args c method (chosen_fit p statics m (at_place s called.1) c (stays c called) called.0 called.3) is are);
})
