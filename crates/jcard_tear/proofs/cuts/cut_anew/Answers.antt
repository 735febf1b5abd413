use Rattle.std.proofs.Common.{sym, subst}
use Rattle.jcard_outcomes.specs.declared.recoveries.Recoveries.{Recoveries}
use Rattle.jcard_tear.specs.Faults.{IsUncutFor}
use Rattle.jcard_tear.specs.Sweep.{IsCutAt}
use Rattle.jcard_sweeps.proofs.RunFaults.{passed_on}
use Rattle.jcard_tear.proofs.CutFaults.{memory_uncut}
use Rattle.jcard_tear.proofs.cuts.cut_anew.Goals as goal

pub returns : goal.returns
returns c =
    let is = rw c.in-Some.is at c.in_ok-left.ensures in
    let cut = subst (λ (r : Recoveries). IsCutAt c.args.shared.now.words.now c.args.shared.now.command c.args.number c.in-Some.left r) (sym c.in_ok-cut.ensures.recoveries) is in
    (c.in-Some.left, cut, c.in_ok-cut.ensures.told)

pub returns-in_err-left : goal.returns-in_err-left
returns-in_err-left c = passed_on _ _ c.from_residual.result c.from_residual.ensures.1
    (λ fault e step. subst (IsUncutFor c.args.shared.now.words.now c.args.shared.now.command step) (sym e) (c.in_err-left.ensures step))

pub returns-in_err-cut : goal.returns-in_err-cut
returns-in_err-cut c = passed_on _ _ c.from_residual-in_err-cut.result c.from_residual-in_err-cut.ensures.1
    (λ fault e step. memory_uncut c.args.shared.now.words.now c.args.shared.now.command step fault e)
