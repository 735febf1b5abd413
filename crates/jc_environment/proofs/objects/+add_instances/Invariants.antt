-- what is left
use Rattle.std.proofs.Common.{length}
use Rattle.jc_environment.proofs.objects.+add_instances.Given as goal

abbrev pub decreases-add_instances : goal.decreases-add_instances
decreases-add_instances l = length l.rows.now
