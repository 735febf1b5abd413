-- The arrays before the index are written.
use Rattle.std.proofs.Common.{◌≡◌, ◌+◌, take, length}
use Rattle.jc_heap.specs.Fresh.{KeepsBelow, Fills}
use Rattle.jc_heap.specs.Package.{array_inits, arrays_words, AreArraysOfBytes}
use Rattle.jc_heap.proofs.record.write_arrays.Given as goal

abbrev pub invariant-loop-array : goal.invariant-loop-array
invariant-loop-array g l = record {
  behind : l.next ≡ l.at + length (arrays_words l.owner (array_inits (take l.array-index l.arrays)));
  below : KeepsBelow l.at l.fn.journal l.journal;
  bytes : AreArraysOfBytes (array_inits (take l.array-index l.arrays));
  done : Fills l.at (arrays_words l.owner (array_inits (take l.array-index l.arrays))) l.fn.journal l.journal;
}
