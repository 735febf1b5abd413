use Rattle.law_soundness.proofs.Losses.{outlast_losses}
use Rattle.law_soundness.proofs.memory_laws.sound_memories_outlast_losses.Goals as goal

pub returns : goal.returns
returns c = outlast_losses
