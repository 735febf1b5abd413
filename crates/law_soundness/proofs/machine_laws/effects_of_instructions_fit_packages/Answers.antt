use Rattle.law_soundness.proofs.Instructions.{instructions_are_fit}
use Rattle.law_soundness.proofs.machine_laws.effects_of_instructions_fit_packages.Goals as goal

pub returns : goal.returns
returns c = instructions_are_fit
