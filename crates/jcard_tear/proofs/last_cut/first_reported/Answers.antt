use Rattle.std.proofs.Common.{◌∙◌, ap, subst, sym}
use Rattle.jc_commit.specs.Image.{plain_of}
use Rattle.jcard_outcomes.specs.declared.standing.Left.{Left}
use Rattle.jcard_sweeps.specs.Faults.{IsProbeFault}
use Rattle.jcard_tear.proofs.KeptCuts.{told_last_cut}
use Rattle.jcard_sweeps.proofs.RunFaults.{passed_on}
use Rattle.jcard_tear.proofs.CutFaults.{memory_probed}
use Rattle.jcard_tear.proofs.last_cut.first_reported.Goals as goal

pub returns : goal.returns
returns c =
    let left = c.in_ok-left.ensures in
    let told = c.in_ok-reported.ensures in (
      told_last_cut c.args.shared.now c.in_ok-left.left c.in_ok-reported.reported left.0 told.left told.told told.recoveries,
      ap (λ (l : Left). plain_of l.words.items) told.left ∙ ap plain_of left.1,
    )

pub returns-in_err-left : goal.returns-in_err-left
returns-in_err-left c = passed_on _ _ c.from_residual.result c.from_residual.ensures.1
    (λ fault e. subst (IsProbeFault c.args.shared.now.command.behind.instructions c.args.shared.now.command.probe.now) (sym e) c.in_err-left.ensures)

pub returns-in_err-reported : goal.returns-in_err-reported
returns-in_err-reported c = passed_on _ _ c.from_residual-in_err-reported.result c.from_residual-in_err-reported.ensures.1
    (λ fault e. memory_probed c.args.shared.now.command.behind.instructions c.args.shared.now.command.probe.now fault e)
