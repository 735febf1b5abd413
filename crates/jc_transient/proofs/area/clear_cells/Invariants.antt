-- The cells before the index are cleared.
use Rattle.std.proofs.Common.{◌≡◌, ◌++◌, map, take, drop}
use Rattle.jc_transient.specs.Cell.{default_value}
use Rattle.jc_transient.proofs.area.clear_cells.Given as goal

abbrev pub invariant-loop-k : goal.invariant-loop-k
invariant-loop-k l = l.cells ≡ map default_value (take l.k l.fn.cells) ++ drop l.k l.fn.cells
