use Rattle.law_code.proofs.Natives.{natives_spare}
use Rattle.law_code.proofs.isolation_laws.platform_methods_leave_objects_out_of_reach.Goals as goal

pub returns : goal.returns
returns c = natives_spare
