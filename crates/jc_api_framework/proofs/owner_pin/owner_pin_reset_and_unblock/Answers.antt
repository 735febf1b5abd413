use Rattle.std.proofs.Common.{arith}
use Rattle.jc_api_framework.specs.OwnerPin.{owner_pin_reset_and_unblock}
use Rattle.jc_memory.proofs.ProgramLemmas.{in_two_steps}
use Rattle.jc_api_framework.proofs.owner_pin.owner_pin_reset_and_unblock.Goals as goal

pub returns-in_err-reset_and_unblock : goal.returns-in_err-reset_and_unblock
unfolding owner_pin_reset_and_unblock
returns-in_err-reset_and_unblock g c = grind (arith, in_two_steps)

pub returns : goal.returns
unfolding owner_pin_reset_and_unblock
returns g c = grind (arith, in_two_steps)
