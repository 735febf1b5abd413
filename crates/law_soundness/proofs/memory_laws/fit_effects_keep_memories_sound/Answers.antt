use Rattle.law_soundness.proofs.Effects.{keeps_sound}
use Rattle.law_soundness.proofs.memory_laws.fit_effects_keep_memories_sound.Goals as goal

pub returns : goal.returns
returns c = keeps_sound
