use Rattle.std.proofs.Common.{refl}
use Rattle.jc_platform.specs.Names.{pins_rows}
use Rattle.jc_platform.proofs.lookup.pins_rows.Goals as goal

pub returns : goal.returns
unfolding pins_rows
returns c = refl
