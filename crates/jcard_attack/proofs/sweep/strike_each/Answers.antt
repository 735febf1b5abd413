use Rattle.std.proofs.Common.{◌≡◌, ◌∙◌, subst, sym}
use Rattle.std.specs.Prelude.{None}
use Rattle.jc_interp.specs.declared.attacks.FaultModel.TheVariants.{Skip}
use Rattle.jc_card.specs.declared.planned_fault.PlannedFault.{PlannedFault}
use Rattle.jcard_sweeps.proofs.RunFaults.{passed_on}
use Rattle.jcard_attack.specs.Aftermaths.{IsUnfinished}
use Rattle.jcard_attack.proofs.StruckLists.{struck_next, struck_none}
use Rattle.jcard_attack.proofs.AttackFaults.{memory_unfinished}
use Rattle.jcard_attack.proofs.sweep.strike_each.Goals as goal

pub loop-fault-init : goal.loop-fault-init
loop-fault-init c = rw c.new-strikes.ensures.items (struck_none _ _ _)

pub loop-fault-preserved : goal.loop-fault-preserved
loop-fault-preserved c =
    let none : PlannedFault = record { instruction = 0; model = Skip; second = None } in
    let shared = c.args.shared.now in
    struck_next shared.words.now shared.attacked shared.baseline c.args.faults.now
    c.loop-fault.fault-index none c.loop-fault.strikes.items c.push_struck.new.strikes.items c.in_ok-struck.struck c.loop-fault-test.true c.loop-fault.invariant
    c.in_ok-struck.ensures.0 c.in_ok-struck.ensures.1 c.in_ok-push_struck.ensures

pub returns-in_err-struck : goal.returns-in_err-struck
returns-in_err-struck c = passed_on _ _ c.from_residual.result c.from_residual.ensures.1
    (λ fault e. subst (IsUnfinished c.args.shared.now.words.now c.args.shared.now.attacked) (sym e) c.in_err-struck.ensures)

pub returns-in_err-push_struck : goal.returns-in_err-push_struck
returns-in_err-push_struck c = passed_on _ _ c.from_residual-in_err-push_struck.result c.from_residual-in_err-push_struck.ensures.1
    (λ fault e. memory_unfinished c.args.shared.now.words.now c.args.shared.now.attacked fault (e ∙ c.in_err-push_struck.ensures))
