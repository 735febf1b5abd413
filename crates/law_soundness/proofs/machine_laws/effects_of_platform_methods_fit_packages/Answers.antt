use Rattle.law_soundness.proofs.Natives.{natives_are_fit}
use Rattle.law_soundness.proofs.machine_laws.effects_of_platform_methods_fit_packages.Goals as goal

pub returns : goal.returns
returns c = natives_are_fit
