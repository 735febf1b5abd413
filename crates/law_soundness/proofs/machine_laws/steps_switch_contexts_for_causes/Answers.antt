use Rattle.law_soundness.proofs.Causes.{causes}
use Rattle.law_soundness.proofs.machine_laws.steps_switch_contexts_for_causes.Goals as goal

pub returns : goal.returns
returns c = causes
