use Rattle.std.proofs.Common.{refl}
use Rattle.jc_platform.specs.Names.{ec_keys_rows}
use Rattle.jc_platform.proofs.lookup.ec_keys_rows.Goals as goal

pub returns : goal.returns
unfolding ec_keys_rows
returns c = refl
