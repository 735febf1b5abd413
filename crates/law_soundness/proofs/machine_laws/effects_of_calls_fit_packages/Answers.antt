use Rattle.law_soundness.proofs.Calls.{calls_are_fit}
use Rattle.law_soundness.proofs.machine_laws.effects_of_calls_fit_packages.Goals as goal

pub returns : goal.returns
returns c = calls_are_fit
