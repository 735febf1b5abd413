use Rattle.law_soundness.proofs.Environment.{keeps_environment}
use Rattle.law_soundness.proofs.memory_laws.fit_effects_keep_the_environments_objects.Goals as goal

pub returns : goal.returns
returns c = keeps_environment
