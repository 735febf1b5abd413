use Rattle.law_soundness.proofs.ObjectInstructions.{objects_are_fit}
use Rattle.law_soundness.proofs.machine_laws.effects_of_object_instructions_fit_packages.Goals as goal

pub returns : goal.returns
returns c = objects_are_fit
