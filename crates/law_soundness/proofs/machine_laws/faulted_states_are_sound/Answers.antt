use Rattle.law_soundness.proofs.Faults.{faults_sound}
use Rattle.law_soundness.proofs.machine_laws.faulted_states_are_sound.Goals as goal

pub returns : goal.returns
returns c = faults_sound
