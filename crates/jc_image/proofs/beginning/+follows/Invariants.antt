-- the headers that are left
use Rattle.std.proofs.Common.{length}
use Rattle.jc_image.proofs.beginning.+follows.Given as goal

abbrev pub decreases-follows : goal.decreases-follows
decreases-follows g l = length l.expected.now
