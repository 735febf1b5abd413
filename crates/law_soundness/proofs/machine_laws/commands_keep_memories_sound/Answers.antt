use Rattle.law_soundness.proofs.CommandLaws.{commands_are_sound}
use Rattle.law_soundness.proofs.machine_laws.commands_keep_memories_sound.Goals as goal

pub returns : goal.returns
returns c = commands_are_sound
