use Rattle.std.proofs.Common.{◌∙◌, ◌^◌, ap, subst, sym}
use Rattle.jcard_outcomes.specs.Recoveries.{recoveries_of}
use Rattle.jcard_tear.proofs.CutRecoveries.{recoveries_told}
use Rattle.jcard_sweeps.specs.Faults.{IsLeftFault, IsLogFault}
use Rattle.jcard_sweeps.proofs.RunFaults.{log_left, passed_on}
use Rattle.jcard_tear.proofs.recoveries.cut_deep.Goals as goal

pub returns : goal.returns
returns c = (
  c.ways.ensures ∙ ap (λ n. n ^ recoveries_of c.args.depth) c.in_ok-writes.ensures.writes,
  recoveries_told c.args.budget c.args.words.now c.args.probe.now c.args.whole.now c.in_ok-writes.writes (recoveries_of c.args.depth) c.in_ok-difference.difference
      c.in_ok-writes.ensures.writes c.in_ok-difference.ensures.good c.in_ok-writes.ensures.once c.requires.left c.in_ok-difference.ensures.difference,
)

pub returns-in_err-writes : goal.returns-in_err-writes
returns-in_err-writes c = passed_on _ _ c.from_residual.result c.from_residual.ensures.1
    (λ fault e. log_left c.args.budget c.args.probe.now fault (subst IsLogFault (sym e) c.in_err-writes.ensures.fault))

pub returns-in_err-difference : goal.returns-in_err-difference
returns-in_err-difference c = passed_on _ _ c.from_residual-in_err-difference.result c.from_residual-in_err-difference.ensures.1
    (λ fault e. subst (IsLeftFault c.args.budget c.args.probe.now) (sym e) c.in_err-difference.ensures.fault)
