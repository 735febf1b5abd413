use Rattle.std.proofs.Common.{length}
use Rattle.jc_linker.proofs.scope.Scope.+native_implementation.Given as goal

abbrev pub decreases-native_implementation : goal.decreases-native_implementation
decreases-native_implementation l = length l.implemented.now
