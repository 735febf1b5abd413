use Rattle.std.proofs.Common.{refl}
use Rattle.hex.specs.Hex.{encode_with}
use Rattle.jc_platform.specs.Names.{packages}
use Rattle.jc_platform.proofs.lookup.all_packages.Goals as goal

pub returns : goal.returns
unfolding packages encode_with
returns c = refl
