use Rattle.law_theorems.proofs.CommandParts.{commands_run_code}
use Rattle.law_theorems.proofs.session_theorems.commands_are_the_environments_and_runs_of_code.Goals as goal

pub returns : goal.returns
returns c = commands_run_code
