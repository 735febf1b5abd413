use Rattle.std.proofs.Common.{◌≡◌, ℕ, length}
use Rattle.jc_linker.specs.Classes.{any_is, lineage}
use Rattle.jc_linker.proofs.scope.Scope.is_below.Given as goal

abbrev pub invariant-loop-above : goal.invariant-loop-above
invariant-loop-above l = any_is l.self l.of l.walk ≡ any_is l.self l.of (lineage l.self l.fn.class)

abbrev pub decreases-loop-above : goal.decreases-loop-above
decreases-loop-above l = length l.walk
