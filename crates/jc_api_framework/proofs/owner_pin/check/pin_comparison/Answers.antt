use Rattle.std.proofs.Common.{arith}
use Rattle.jc_api_framework.specs.OwnerPin.{pin_comparison}
use Rattle.jc_memory.proofs.ProgramLemmas.{in_two_steps}
use Rattle.jc_api_framework.proofs.owner_pin.check.pin_comparison.Goals as goal

pub returns-in_err-same-in-Ok : goal.returns-in_err-same-in-Ok
unfolding pin_comparison
returns-in_err-same-in-Ok g c = grind (arith, in_two_steps)

pub returns-in_ok-same-in-Ok : goal.returns-in_ok-same-in-Ok
unfolding pin_comparison
returns-in_ok-same-in-Ok g c = grind (arith, in_two_steps)

pub returns-in_err-check-in-Err : goal.returns-in_err-check-in-Err
unfolding pin_comparison
returns-in_err-check-in-Err g c = grind (arith, in_two_steps)

pub returns-in_ok-check-in-Err : goal.returns-in_ok-check-in-Err
unfolding pin_comparison
returns-in_ok-check-in-Err g c = grind (arith, in_two_steps)
