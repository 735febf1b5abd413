use Rattle.std.proofs.Common.{◌≡◌, ℕ, length}
use Rattle.jc_linker.specs.Classes.{any_reference, lineage}
use Rattle.jc_linker.proofs.scope.Scope.reference_cell.Given as goal

abbrev pub invariant-loop-above : goal.invariant-loop-above
invariant-loop-above l = any_reference l.self l.cell l.walk ≡ any_reference l.self l.cell (lineage l.self l.fn.class)

abbrev pub decreases-loop-above : goal.decreases-loop-above
decreases-loop-above l = length l.walk
