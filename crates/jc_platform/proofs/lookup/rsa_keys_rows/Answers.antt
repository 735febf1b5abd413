use Rattle.std.proofs.Common.{refl}
use Rattle.jc_platform.specs.Names.{rsa_keys_rows}
use Rattle.jc_platform.proofs.lookup.rsa_keys_rows.Goals as goal

pub returns : goal.returns
unfolding rsa_keys_rows
returns c = refl
