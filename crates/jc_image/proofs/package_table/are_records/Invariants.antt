use Rattle.std.proofs.Common.{ℕ, ◌<◌, ◌≤◌, length, slice_index}
use Rattle.jc_heap.specs.Component.{record_of}
use Rattle.jc_heap.specs.Heap.{heap_of}
use Rattle.jc_image.proofs.package_table.are_records.Given as goal

abbrev pub invariant-loop-k : goal.invariant-loop-k
invariant-loop-k g l = (j : ℕ) → j < l.k → 2 ≤ length (record_of (heap_of l.journal.plain) (slice_index ((heap_of l.journal.plain).packages) j))
