use Rattle.std.proofs.Common.{length}
use Rattle.jc_linker.proofs.scope.Scope.+names_below.Given as goal

abbrev pub decreases-names_below : goal.decreases-names_below
decreases-names_below l = length l.listed.now
