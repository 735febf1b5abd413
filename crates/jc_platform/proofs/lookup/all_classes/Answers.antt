use Rattle.std.proofs.Common.{refl}
use Rattle.jc_platform.specs.Names.{classes}
use Rattle.jc_platform.proofs.lookup.all_classes.Goals as goal

pub returns : goal.returns
unfolding classes
returns c = refl
