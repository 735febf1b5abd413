use Rattle.std.proofs.Common.{refl}
use Rattle.jc_platform.specs.Names.{utilities_rows}
use Rattle.jc_platform.proofs.lookup.utilities_rows.Goals as goal

pub returns : goal.returns
unfolding utilities_rows
returns c = refl
