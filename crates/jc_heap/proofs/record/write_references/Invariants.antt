-- The addresses of the arrays before the index are written.
use Rattle.std.proofs.Common.{◌≡◌, ◌+◌, take}
use Rattle.jc_heap.specs.Fresh.{KeepsBelow, Fills}
use Rattle.jc_heap.specs.Package.{array_inits, array_addresses, arrays_size}
use Rattle.jc_heap.proofs.record.write_references.Given as goal

abbrev pub invariant-loop-k : goal.invariant-loop-k
invariant-loop-k g l = record {
  address : l.address ≡ l.first + arrays_size (array_inits (take l.k l.arrays));
  below : KeepsBelow l.at l.fn.journal l.journal;
  done : Fills l.at (array_addresses l.first (array_inits (take l.k l.arrays))) l.fn.journal l.journal;
}
