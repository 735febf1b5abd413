-- the objects that are left
use Rattle.std.proofs.Common.{length}
use Rattle.jc_card.proofs.fixed.+make_all.Given as goal

abbrev pub decreases-make_all : goal.decreases-make_all
decreases-make_all g l = length l.objects.now
