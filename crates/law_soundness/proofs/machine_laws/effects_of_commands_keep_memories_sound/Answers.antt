use Rattle.law_soundness.proofs.CommandEffects.{serving_keeps}
use Rattle.law_soundness.proofs.machine_laws.effects_of_commands_keep_memories_sound.Goals as goal

pub returns : goal.returns
returns c = serving_keeps
