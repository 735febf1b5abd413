use Rattle.std.proofs.Common.{refl}
use Rattle.jc_platform.specs.Names.{apdus_rows}
use Rattle.jc_platform.proofs.lookup.apdus_rows.Goals as goal

pub returns : goal.returns
unfolding apdus_rows
returns c = refl
