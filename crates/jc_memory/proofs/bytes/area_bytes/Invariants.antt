-- The bytes before the place are read.
use Rattle.std.proofs.Common.{◌%◌, ◌-◌}
use Rattle.jc_transient.specs.State.{cell_at}
use Rattle.jc_memory.specs.Cells.{word_of}
use Rattle.jc_heap.proofs.ByteReads.{AreRead}
use Rattle.jc_memory.proofs.bytes.area_bytes.Given as goal

abbrev pub invariant-loop-at : goal.invariant-loop-at
invariant-loop-at l = AreRead (λ k. word_of (cell_at l.ram l.event k) % 256) l.place (l.at - l.place) l.out
