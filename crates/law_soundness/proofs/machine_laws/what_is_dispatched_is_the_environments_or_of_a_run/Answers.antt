use Rattle.law_soundness.proofs.CommandParts.{dispatched_apart}
use Rattle.law_soundness.proofs.machine_laws.what_is_dispatched_is_the_environments_or_of_a_run.Goals as goal

pub returns : goal.returns
returns g c = dispatched_apart
