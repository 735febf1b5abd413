use Rattle.std.proofs.Common.{refl}
use Rattle.jc_platform.specs.Names.{ec_interfaces_rows}
use Rattle.jc_platform.proofs.lookup.ec_interfaces_rows.Goals as goal

pub returns : goal.returns
unfolding ec_interfaces_rows
returns c = refl
