use Rattle.law_code.proofs.Groups.{objects_spare}
use Rattle.law_code.proofs.isolation_laws.object_instructions_leave_objects_out_of_reach.Goals as goal

pub returns : goal.returns
returns c = objects_spare
