use Rattle.std.proofs.Common.{arith}
use Rattle.jc_memory.proofs.ProgramLemmas.{in_two_calls}
use Rattle.jc_api.proofs.pairing.names_second.Goals as goal

pub returns-in_err-made : goal.returns-in_err-made
returns-in_err-made g c = grind (arith, in_two_calls)

pub returns-in_err-second : goal.returns-in_err-second
returns-in_err-second g c = grind (arith, in_two_calls)

pub returns : goal.returns
returns g c = grind (arith, in_two_calls)
