-- what is left
use Rattle.std.proofs.Common.{length}
use Rattle.jc_environment.proofs.objects.+add_sized.Given as goal

abbrev pub decreases-add_sized : goal.decreases-add_sized
decreases-add_sized l = length l.objects.now
