-- The cells before the index are filled.
use Rattle.std.proofs.Common.{◌≡◌, replicate}
use lib.Seq.{paste}
use Rattle.jc_transient.proofs.area.fill_cells.Given as goal

abbrev pub invariant-loop-k : goal.invariant-loop-k
invariant-loop-k l = l.cells ≡ paste l.fn.cells l.place (replicate l.k l.value) l.k
