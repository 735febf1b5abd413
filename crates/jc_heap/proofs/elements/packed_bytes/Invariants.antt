-- The bytes before the index are read: those before the words of the loop, and those of its words before the address.
use Rattle.std.proofs.Common.{◌≡◌, ◌≤◌, ◌+◌, ◌-◌, ◌*◌}
use Rattle.jc_heap.specs.Heap.{heap_of, cells}
use Rattle.jc_heap.specs.Packed.{low_byte_of}
use Rattle.jc_heap.proofs.ByteReads.{AreRead}
use Rattle.jc_heap.proofs.elements.packed_bytes.Given as goal

abbrev pub invariant-loop-address : goal.invariant-loop-address
invariant-loop-address g l =
    AreRead (low_byte_of (cells (heap_of l.journal.plain) l.fn.object)) l.fn.i l.k l.out × (l.k ≡ l.odd + 2 * (l.address - l.first)) × (l.first ≤ l.address)
    × (l.address ≤ l.behind)
