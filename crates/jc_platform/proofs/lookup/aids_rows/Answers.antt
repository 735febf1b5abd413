use Rattle.std.proofs.Common.{refl}
use Rattle.jc_platform.specs.Names.{aids_rows}
use Rattle.jc_platform.proofs.lookup.aids_rows.Goals as goal

pub returns : goal.returns
unfolding aids_rows
returns c = refl
