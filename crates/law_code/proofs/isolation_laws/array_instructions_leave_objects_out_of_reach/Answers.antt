use Rattle.law_code.proofs.Groups.{arrays_spare}
use Rattle.law_code.proofs.isolation_laws.array_instructions_leave_objects_out_of_reach.Goals as goal

pub returns : goal.returns
returns c = arrays_spare
