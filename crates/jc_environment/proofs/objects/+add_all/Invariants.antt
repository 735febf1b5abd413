-- what is left
use Rattle.std.proofs.Common.{length}
use Rattle.jc_environment.proofs.objects.+add_all.Given as goal

abbrev pub decreases-add_all : goal.decreases-add_all
decreases-add_all l = length l.objects.now
