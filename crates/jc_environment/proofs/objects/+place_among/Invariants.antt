-- what is left
use Rattle.std.proofs.Common.{length}
use Rattle.jc_environment.proofs.objects.+place_among.Given as goal

abbrev pub decreases-place_among : goal.decreases-place_among
decreases-place_among l = length l.objects.now
