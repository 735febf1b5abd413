use Rattle.std.proofs.Common.{refl}
use Rattle.jc_platform.specs.Names.{key_interfaces_rows}
use Rattle.jc_platform.proofs.lookup.key_interfaces_rows.Goals as goal

pub returns : goal.returns
unfolding key_interfaces_rows
returns c = refl
