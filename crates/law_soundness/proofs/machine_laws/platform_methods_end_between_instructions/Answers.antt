use Rattle.law_soundness.proofs.Natives.{natives_leave}
use Rattle.law_soundness.proofs.machine_laws.platform_methods_end_between_instructions.Goals as goal

pub returns : goal.returns
returns c = natives_leave
