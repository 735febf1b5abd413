use Rattle.std.proofs.Common.{refl}
use Rattle.jc_platform.specs.Names.{key_pairs_rows}
use Rattle.jc_platform.proofs.lookup.key_pairs_rows.Goals as goal

pub returns : goal.returns
unfolding key_pairs_rows
returns c = refl
