use Rattle.std.proofs.Common.{ℕ, ◌≡◌, ◌<◌, true, slice_index}
use Rattle.jc_heap.specs.Heap.{heap_of, is_allocated}
use Rattle.jc_image.proofs.package_table.are_allocated.Given as goal

abbrev pub invariant-loop-k : goal.invariant-loop-k
invariant-loop-k g l = (j : ℕ) → j < l.k → is_allocated (heap_of l.journal.plain) (slice_index ((heap_of l.journal.plain).packages) j) ≡ true
