-- The words before the index are written.
use Rattle.std.proofs.Common.{take}
use Rattle.jc_heap.specs.Fresh.{KeepsBelow, Fills}
use Rattle.jc_heap.specs.Packed.{packed_words}
use Rattle.jc_heap.proofs.record.write_packed.Given as goal

abbrev pub invariant-loop-k : goal.invariant-loop-k
invariant-loop-k g l = record { below : KeepsBelow l.at l.fn.journal l.journal; done : Fills l.at (take l.k (packed_words l.bytes)) l.fn.journal l.journal }
