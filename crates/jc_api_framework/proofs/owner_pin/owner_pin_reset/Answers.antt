use Rattle.std.proofs.Common.{arith}
use Rattle.jc_api_framework.specs.OwnerPin.{owner_pin_reset}
use Rattle.jc_memory.proofs.ProgramLemmas.{in_two_steps}
use Rattle.jc_api_framework.proofs.owner_pin.owner_pin_reset.Goals as goal

pub returns-in_err-reset : goal.returns-in_err-reset
unfolding owner_pin_reset
returns-in_err-reset g c = grind (arith, in_two_steps)

pub returns : goal.returns
unfolding owner_pin_reset
returns g c = grind (arith, in_two_steps)
