-- The dead references below the place are null.
use Rattle.std.proofs.Common.{◌≡◌, ◌++◌, map, take, drop}
use Rattle.jc_frames.specs.Cell.{without_dead}
use Rattle.jc_frames.proofs.dead_references.null_dead_cells.Given as goal

abbrev pub invariant-loop-place : goal.invariant-loop-place
invariant-loop-place l = l.cells.items ≡ map (without_dead l.top) (take l.place l.fn.cells.items) ++ drop l.place l.fn.cells.items
