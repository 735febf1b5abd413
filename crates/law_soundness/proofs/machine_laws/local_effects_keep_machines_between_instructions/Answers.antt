use Rattle.law_soundness.proofs.LocalEffects.{calm_stays}
use Rattle.law_soundness.proofs.machine_laws.local_effects_keep_machines_between_instructions.Goals as goal

pub returns : goal.returns
returns c = calm_stays
