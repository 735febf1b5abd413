-- The dead references before the index are null.
use Rattle.std.proofs.Common.{◌≡◌, ◌++◌, map, take, drop}
use Rattle.jc_transient.specs.Cell.{without_dead}
use Rattle.jc_transient.proofs.area.null_dead_cells.Given as goal

abbrev pub invariant-loop-k : goal.invariant-loop-k
invariant-loop-k l = l.cells ≡ map (without_dead l.top) (take l.k l.fn.cells) ++ drop l.k l.fn.cells
