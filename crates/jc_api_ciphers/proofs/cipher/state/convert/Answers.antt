use Rattle.std.proofs.Common.{arith}
use Rattle.jc_api_ciphers.proofs.Released.{released_few}
use Rattle.jc_api_ciphers.proofs.cipher.state.convert.Goals as goal

pub returns-clause-within : goal.returns-clause-within
returns-clause-within g c = grind (arith, released_few)
