use Rattle.std.proofs.Common.{refl}
use Rattle.jc_platform.specs.Names.{exceptions_rows}
use Rattle.jc_platform.proofs.lookup.exceptions_rows.Goals as goal

pub returns : goal.returns
unfolding exceptions_rows
returns c = refl
