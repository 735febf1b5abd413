use Rattle.law_code.proofs.StepsOfRuns.{runs_are_steps}
use Rattle.law_code.proofs.isolation_laws.runs_are_steps.Goals as goal

pub returns : goal.returns
returns c = runs_are_steps
