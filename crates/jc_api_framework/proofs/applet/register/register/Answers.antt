use Rattle.std.proofs.Common.{arith}
use Rattle.jc_api_framework.specs.Applet.Register.{registration}
use Rattle.jc_memory.proofs.ProgramLemmas.{in_two_steps}
use Rattle.jc_api_framework.proofs.applet.register.register.Goals as goal

pub returns-in_err-made : goal.returns-in_err-made
unfolding registration
returns-in_err-made g c = grind (arith, in_two_steps)

pub enter-requires-clause-up : goal.enter-requires-clause-up
unfolding registration
enter-requires-clause-up g c = grind (arith, in_two_steps)

pub returns-in_err-enter : goal.returns-in_err-enter
unfolding registration
returns-in_err-enter g c = grind (arith, in_two_steps)

pub returns : goal.returns
unfolding registration
returns g c = grind (arith, in_two_steps)
