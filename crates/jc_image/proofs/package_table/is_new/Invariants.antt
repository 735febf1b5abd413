use Rattle.std.proofs.Common.{ℕ, ◌≡◌, ◌<◌, slice_index}
use Rattle.jc_heap.specs.Heap.{heap_of}
use Rattle.jc_image.proofs.package_table.is_new.Given as goal

abbrev pub invariant-loop-j : goal.invariant-loop-j
invariant-loop-j g l = (i : ℕ) → i < l.j → slice_index ((heap_of l.journal.plain).packages) i ≡ slice_index ((heap_of l.journal.plain).packages) l.k → ⊥
