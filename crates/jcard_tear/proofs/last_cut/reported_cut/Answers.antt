use Rattle.std.proofs.Common.{subst, sym}
use Rattle.jcard_sweeps.specs.Faults.{IsProbeFault}
use Rattle.jcard_tear.proofs.KeptCuts.{copied_alike}
use Rattle.jcard_sweeps.proofs.RunFaults.{passed_on}
use Rattle.jcard_tear.proofs.CutFaults.{memory_probed}
use Rattle.jcard_tear.proofs.last_cut.reported_cut.Goals as goal

pub returns-clause-cut : goal.returns-clause-cut
returns-clause-cut c =
    let reported = c.in_ok-reported.ensures in
    let copy = c.in_ok-cut.ensures in
    copied_alike c.args.shared.now c.in_ok-reported.reported _ c.in_ok-cut.cut reported.0 reported.1 copy.standing copy.lost copy.answers copy.recoveries

pub returns-in_err-reported-clause-cut : goal.returns-in_err-reported-clause-cut
returns-in_err-reported-clause-cut c = passed_on _ _ c.from_residual.result c.from_residual.ensures.1
    (λ fault e. subst (IsProbeFault c.args.shared.now.command.behind.instructions c.args.shared.now.command.probe.now) (sym e) c.in_err-reported.ensures)

pub returns-in_err-cut-clause-cut : goal.returns-in_err-cut-clause-cut
returns-in_err-cut-clause-cut c = passed_on _ _ c.from_residual-in_err-cut.result c.from_residual-in_err-cut.ensures.1
    (λ fault e. memory_probed c.args.shared.now.command.behind.instructions c.args.shared.now.command.probe.now fault e)
