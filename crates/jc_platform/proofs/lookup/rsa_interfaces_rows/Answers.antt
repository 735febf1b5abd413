use Rattle.std.proofs.Common.{refl}
use Rattle.jc_platform.specs.Names.{rsa_interfaces_rows}
use Rattle.jc_platform.proofs.lookup.rsa_interfaces_rows.Goals as goal

pub returns : goal.returns
unfolding rsa_interfaces_rows
returns c = refl
