use Rattle.std.proofs.Common.{arith}
use Rattle.jc_memory.proofs.ProgramLemmas.{in_two_steps}
use Rattle.jc_api_framework.proofs.util.storing.store_for_good.Goals as goal

pub returns-in_err-set_bytes_nonatomic : goal.returns-in_err-set_bytes_nonatomic
returns-in_err-set_bytes_nonatomic g c = grind (arith, in_two_steps)

pub returns : goal.returns
returns g c = grind (arith, in_two_steps)
