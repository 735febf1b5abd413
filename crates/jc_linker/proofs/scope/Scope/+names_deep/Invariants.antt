use Rattle.std.proofs.Common.{length}
use Rattle.jc_linker.proofs.scope.Scope.+names_deep.Given as goal

abbrev pub decreases-names_deep : goal.decreases-names_deep
decreases-names_deep l = length l.listed.now
