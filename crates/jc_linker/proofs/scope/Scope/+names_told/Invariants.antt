use Rattle.std.proofs.Common.{length}
use Rattle.jc_linker.proofs.scope.Scope.+names_told.Given as goal

abbrev pub decreases-names_told : goal.decreases-names_told
decreases-names_told l = length l.listed.now
