use Rattle.std.proofs.Common.{arith}
use Rattle.jc_instructions.specs.Invoke.{invokeinterface, receiver_of}
use Rattle.jc_instructions.specs.Parameters.{fits}
use Rattle.jc_instructions.proofs.Implementing.{not_implemented}
use Rattle.jc_instructions.proofs.known_calls.select_interface_code.Goals as goal

pub returns-clause-chosen : goal.returns-clause-chosen
unfolding invokeinterface receiver_of fits
returns-clause-chosen g c = grind (arith, not_implemented)
