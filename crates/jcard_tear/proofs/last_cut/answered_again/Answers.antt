use Rattle.std.proofs.Common.{ap}
use Rattle.jc_commit.specs.Image.{plain_of}
use Rattle.jcard_outcomes.specs.declared.standing.Left.{Left}
use Rattle.jcard_tear.proofs.KeptCuts.{told_last_cut}
use Rattle.jcard_tear.proofs.OneHeaps.{gives_alike}
use Rattle.jcard_sweeps.proofs.RunFaults.{passed_on}
use Rattle.jcard_tear.proofs.CutFaults.{memory_probed}
use Rattle.jcard_tear.proofs.last_cut.answered_again.Goals as goal

pub returns : goal.returns
returns c =
    let command = c.args.shared.now.command in
    let left : Left = record { words = c.args.found; answers = c.args.last.answers } in
    let gives = gives_alike c.args.last.words.items c.args.found.items c.requires.one c.requires.last.0 c.requires.recovered command.behind.instructions
    command.probe.now c.args.last.answers.items c.requires.last.1 in
    let told = c.in_ok-reported.ensures in (
      told_last_cut c.args.shared.now left c.in_ok-reported.reported (c.requires.recovered, gives) told.left told.told told.recoveries,
      ap (λ (l : Left). plain_of l.words.items) told.left,
    )

pub returns-in_err-reported : goal.returns-in_err-reported
returns-in_err-reported c = passed_on _ _ c.from_residual.result c.from_residual.ensures.1
    (λ fault e. memory_probed c.args.shared.now.command.behind.instructions c.args.shared.now.command.probe.now fault e)
