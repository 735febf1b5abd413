use Rattle.law_soundness.proofs.Leaves.{leaves_are_fit}
use Rattle.law_soundness.proofs.machine_laws.effects_of_returns_and_exceptions_fit_packages.Goals as goal

pub returns : goal.returns
returns c = leaves_are_fit
