use Rattle.law_soundness.proofs.Arrays.{arrays_are_fit}
use Rattle.law_soundness.proofs.machine_laws.effects_of_array_instructions_fit_packages.Goals as goal

pub returns : goal.returns
returns c = arrays_are_fit
