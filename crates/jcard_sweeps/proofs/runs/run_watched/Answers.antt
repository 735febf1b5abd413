use Rattle.std.proofs.Common.{subst}
use Rattle.std.specs.Prelude.{MatchResult}
use Rattle.jcard_sweeps.specs.Runs.{HasRun, IsRunFault}
use Rattle.jcard_sweeps.proofs.runs.run_watched.Goals as goal

pub returns-clause-ran : goal.returns-clause-ran
returns-clause-ran c = subst (λ w. MatchResult c.run.result (λ ran. HasRun c.args.budget w c.args.script.now ran) (λ fault. IsRunFault c.args.budget w c.args.script.now fault))
    c.in_ok-copy.ensures.items c.run.ensures.ran
