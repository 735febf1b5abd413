-- The zeros before the index are written.
use Rattle.std.proofs.Common.{replicate}
use Rattle.jc_heap.specs.Fresh.{KeepsBelow, Fills}
use Rattle.jc_heap.proofs.fresh.write_zeros.Given as goal

abbrev pub invariant-loop-k : goal.invariant-loop-k
invariant-loop-k g l = record { below : KeepsBelow l.at l.fn.journal l.journal; done : Fills l.at (replicate l.k 0) l.fn.journal l.journal }
