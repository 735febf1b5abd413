-- The bytes before the index are set.
use Rattle.std.proofs.Common.{◌≡◌, length, false}
use Rattle.jc_heap.specs.declared.object.Kind.TheVariants.{ByteArray}
use Rattle.jc_heap.specs.Heap.{cells, facts}
use Rattle.jc_memory.proofs.NonAtomicWrites.{GoesOn}
use Rattle.jc_memory.proofs.memory.Memory.write_bytes_nonatomic.Given as goal

abbrev pub invariant-loop-k : goal.invariant-loop-k
invariant-loop-k g l = record {
  goes_on : GoesOn l.array l.i l.bytes l.fn.self l.k l.self;
  up : l.self.heap.down ≡ false;
  cells : length (cells l.self.heap.now l.array) ≡ length (cells l.fn.self.heap.now l.array);
  kind : (facts l.self.heap.now l.array).kind ≡ ByteArray;
}
