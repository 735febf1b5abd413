use Rattle.std.proofs.Common.{refl}
use Rattle.jc_platform.specs.Names.{ciphers_rows}
use Rattle.jc_platform.proofs.lookup.ciphers_rows.Goals as goal

pub returns : goal.returns
unfolding ciphers_rows
returns c = refl
