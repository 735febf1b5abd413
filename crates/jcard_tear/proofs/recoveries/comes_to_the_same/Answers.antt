use Rattle.std.proofs.Common.{subst, sym}
use Rattle.jcard_sweeps.specs.Runs.{IsLeft}
use Rattle.jcard_tear.proofs.CutRecoveries.{compared}
use Rattle.jcard_sweeps.specs.Faults.{IsLeftFault}
use Rattle.jcard_sweeps.proofs.RunFaults.{memory_left, passed_on}
use Rattle.jcard_tear.proofs.recoveries.comes_to_the_same.Goals as goal

pub returns : goal.returns
returns c = compared c.is_same.result c.args.budget c.args.words.now c.args.probe.now c.args.whole.now c.in_ok-found.found c.is_same.ensures
    (subst (λ w. IsLeft c.args.budget w c.args.probe.now c.in_ok-found.found) c.in_ok-copy.ensures.items c.in_ok-found.ensures)

pub returns-in_err-copy : goal.returns-in_err-copy
returns-in_err-copy c = passed_on _ _ c.from_residual.result c.from_residual.ensures.1 (λ fault e. memory_left c.args.budget c.args.probe.now fault e)

pub returns-in_err-found : goal.returns-in_err-found
returns-in_err-found c = passed_on _ _ c.from_residual-in_err-found.result c.from_residual-in_err-found.ensures.1
    (λ fault e. subst (IsLeftFault c.args.budget c.args.probe.now) (sym e) c.in_err-found.ensures)
