use Rattle.std.proofs.Common.{length}
use Rattle.jc_linker.proofs.scope.Scope.+names.Given as goal

abbrev pub decreases-names : goal.decreases-names
decreases-names l = length l.listed.now
