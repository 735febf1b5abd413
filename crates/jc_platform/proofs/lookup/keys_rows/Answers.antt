use Rattle.std.proofs.Common.{refl}
use Rattle.jc_platform.specs.Names.{keys_rows}
use Rattle.jc_platform.proofs.lookup.keys_rows.Goals as goal

pub returns : goal.returns
unfolding keys_rows
returns c = refl
