use Rattle.law_soundness.proofs.Calls.{asks_are_fit}
use Rattle.law_soundness.proofs.machine_laws.effects_of_server_calls_fit_packages.Goals as goal

pub returns : goal.returns
returns c = asks_are_fit
