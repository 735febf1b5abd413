use Rattle.std.proofs.Common.{◌≡◌, List, ◌++◌, Some, length, reverse}
use Rattle.jc_platform.specs.declared.row.Row.{Row}
use Rattle.jc_platform.specs.Packing.{entries_of}
use Rattle.jc_platform.proofs.packing.entries_of.Given as goal

-- the rows so far are packed
abbrev pub invariant-loop-row : goal.invariant-loop-row
invariant-loop-row l = (done : List Row) × (l.fn.rows ≡ reverse done ++ l.left) × (entries_of done ≡ Some l.bytes.items)

abbrev pub decreases-loop-row : goal.decreases-loop-row
decreases-loop-row l = length l.left
