use Rattle.std.proofs.Common.{ℕ, ◌≡◌, ◌<◌, slice_index}
use Rattle.jc_heap.specs.Heap.{heap_of}
use Rattle.jc_image.proofs.package_table.are_distinct.Given as goal

abbrev pub invariant-loop-k : goal.invariant-loop-k
invariant-loop-k g l = (i j : ℕ) → i < j → j < l.k → slice_index ((heap_of l.journal.plain).packages) i ≡ slice_index ((heap_of l.journal.plain).packages) j → ⊥
