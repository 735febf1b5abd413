use Rattle.std.proofs.Common.{refl}
use Rattle.jc_platform.specs.Names.{system_rows}
use Rattle.jc_platform.proofs.lookup.system_rows.Goals as goal

pub returns : goal.returns
unfolding system_rows
returns c = refl
