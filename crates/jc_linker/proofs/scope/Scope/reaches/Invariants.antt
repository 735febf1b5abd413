use Rattle.std.proofs.Common.{◌≡◌, ℕ, length}
use Rattle.jc_linker.specs.Classes.{is_among, lineage}
use Rattle.jc_linker.proofs.scope.Scope.reaches.Given as goal

abbrev pub invariant-loop-above : goal.invariant-loop-above
invariant-loop-above l = is_among l.of l.walk ≡ is_among l.of (lineage l.fn.self l.fn.class)

abbrev pub decreases-loop-above : goal.decreases-loop-above
decreases-loop-above l = length l.walk
