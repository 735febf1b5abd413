use Rattle.law_soundness.proofs.StepLaws.{runs_are_sound}
use Rattle.law_soundness.proofs.machine_laws.effects_of_runs_fit_packages.Goals as goal

pub returns : goal.returns
returns c = runs_are_sound
