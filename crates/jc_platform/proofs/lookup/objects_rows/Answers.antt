use Rattle.std.proofs.Common.{refl}
use Rattle.jc_platform.specs.Names.{objects_rows}
use Rattle.jc_platform.proofs.lookup.objects_rows.Goals as goal

pub returns : goal.returns
unfolding objects_rows
returns c = refl
