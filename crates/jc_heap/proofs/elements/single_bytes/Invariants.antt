-- The bytes before the index are read.
use Rattle.jc_heap.specs.Heap.{heap_of, cells}
use Rattle.jc_heap.specs.Packed.{low_byte_of}
use Rattle.jc_heap.proofs.ByteReads.{AreRead}
use Rattle.jc_heap.proofs.elements.single_bytes.Given as goal

abbrev pub invariant-loop-k : goal.invariant-loop-k
invariant-loop-k g l = AreRead (low_byte_of (cells (heap_of l.journal.plain) l.fn.object)) l.fn.i l.k l.out
