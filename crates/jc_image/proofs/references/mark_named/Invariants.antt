-- What was marked before, and the cells before the index, are references just if all that is marked is.
use Rattle.std.proofs.Common.{ℕ, ◌≡◌, ◌<◌, ◌≤◌, ◌+◌, ◌↔◌, false, length, get_or, slice_index}
use Rattle.jc_heap.specs.Heap.{heap_of}
use Rattle.jc_heap.specs.WholeHeap.{IsReference}
use Rattle.jc_image.specs.Steps.{AreReferences}
use Rattle.jc_image.proofs.references.mark_named.Given as goal

abbrev pub invariant-loop-i : goal.invariant-loop-i
invariant-loop-i g l = record {
  long : length l.named ≡ 65536;
  below : ((r : ℕ) → l.top ≤ r → get_or l.fn.named r false ≡ false) → (r : ℕ) → l.top ≤ r → get_or l.named r false ≡ false;
  held : AreReferences (heap_of l.journal.plain) l.named ↔ (AreReferences (heap_of l.journal.plain) l.fn.named
      × ((j : ℕ) → j < l.i → IsReference (heap_of l.journal.plain) (slice_index l.journal.plain (l.at + 4 + j))));
}
