use Rattle.law_code.proofs.Groups.{fields_spare}
use Rattle.law_code.proofs.isolation_laws.field_instructions_leave_objects_out_of_reach.Goals as goal

pub returns : goal.returns
returns c = fields_spare
