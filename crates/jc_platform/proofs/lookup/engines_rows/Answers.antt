use Rattle.std.proofs.Common.{refl}
use Rattle.jc_platform.specs.Names.{engines_rows}
use Rattle.jc_platform.proofs.lookup.engines_rows.Goals as goal

pub returns : goal.returns
unfolding engines_rows
returns c = refl
