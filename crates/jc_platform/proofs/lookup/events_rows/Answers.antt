use Rattle.std.proofs.Common.{refl}
use Rattle.jc_platform.specs.Names.{events_rows}
use Rattle.jc_platform.proofs.lookup.events_rows.Goals as goal

pub returns : goal.returns
unfolding events_rows
returns c = refl
