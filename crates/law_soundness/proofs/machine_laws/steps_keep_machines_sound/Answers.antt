use Rattle.law_soundness.proofs.StepLaws.{given}
use Rattle.law_soundness.proofs.StepsAndRuns.{steps_sound}
use Rattle.law_soundness.proofs.machine_laws.steps_keep_machines_sound.Goals as goal

pub returns : goal.returns
returns c = steps_sound given
