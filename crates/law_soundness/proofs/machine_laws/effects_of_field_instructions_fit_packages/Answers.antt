use Rattle.law_soundness.proofs.Fields.{fields_are_fit}
use Rattle.law_soundness.proofs.machine_laws.effects_of_field_instructions_fit_packages.Goals as goal

pub returns : goal.returns
returns c = fields_are_fit
