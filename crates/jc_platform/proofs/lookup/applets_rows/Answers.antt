use Rattle.std.proofs.Common.{refl}
use Rattle.jc_platform.specs.Names.{applets_rows}
use Rattle.jc_platform.proofs.lookup.applets_rows.Goals as goal

pub returns : goal.returns
unfolding applets_rows
returns c = refl
