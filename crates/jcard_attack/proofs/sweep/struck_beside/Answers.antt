use Rattle.std.proofs.Common.{◌∙◌, List, ap, inl, subst, sym}
use Rattle.jc_card.specs.declared.planned_fault.PlannedFault.{PlannedFault}
use Rattle.jcard_sweeps.proofs.RunFaults.{passed_on}
use Rattle.jcard_attack.specs.Aftermaths.{IsUnfinished}
use Rattle.jcard_attack.specs.Models.{faults_tried, kinds_tried}
use Rattle.jcard_attack.specs.Sweep.{AreStruckBy, IsUnswept, asked_in}
use Rattle.jcard_attack.proofs.AttackFaults.{trace_unswept}
use Rattle.jcard_attack.proofs.sweep.struck_beside.Goals as goal

pub returns : goal.returns
returns c =
    let sought = c.args.sought in
    let tried = c.in_ok-faults.ensures
    ∙ ap (faults_tried (kinds_tried sought.models sought.within)) (c.len.ensures ∙ c.in_ok-instructions.instructions.ok.0) in
    subst (λ (fs : List PlannedFault). AreStruckBy c.args.words.now c.args.attacked c.args.baseline fs c.in_ok-strikes.strikes.items)
    (c.asked_in.ensures ∙ ap (asked_in c.args.part) (c.deref.ensures.value ∙ tried)) c.in_ok-strikes.ensures

pub returns-in_err-instructions : goal.returns-in_err-instructions
returns-in_err-instructions c = passed_on _ _ c.from_residual.result c.from_residual.ensures.1
    (λ fault e. subst (IsUnswept c.args.words.now c.args.attacked) (sym e) c.in_err-instructions.ensures)

pub returns-in_err-faults : goal.returns-in_err-faults
returns-in_err-faults c = passed_on _ _ c.from_residual-in_err-faults.result c.from_residual-in_err-faults.ensures.1
    (λ fault e. subst (IsUnswept c.args.words.now c.args.attacked) (sym e) (trace_unswept c.args.words.now c.args.attacked _ c.in_err-faults.ensures))

pub returns-in_err-strikes : goal.returns-in_err-strikes
returns-in_err-strikes c = passed_on _ _ c.from_residual-in_err-strikes.result c.from_residual-in_err-strikes.ensures.1
    (λ fault e. inl (subst (IsUnfinished c.args.words.now c.args.attacked) (sym e) c.in_err-strikes.ensures))
