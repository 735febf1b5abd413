use Rattle.law_code.proofs.Steps.{steps_spare}
use Rattle.law_code.proofs.isolation_laws.steps_leave_objects_out_of_reach.Goals as goal

pub returns : goal.returns
returns c = steps_spare
