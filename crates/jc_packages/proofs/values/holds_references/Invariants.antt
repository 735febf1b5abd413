use Rattle.std.proofs.Common.{◌≡◌, ℕ, ◌<◌, true, slice_index}
use Rattle.jc_heap.specs.Heap.{cells}
use Rattle.jc_linker.specs.Classes.{reference_cell}
use Rattle.jc_packages.specs.Objects.{is_reference}
use Rattle.jc_packages.proofs.values.holds_references.Given as goal

abbrev pub invariant-loop-i : goal.invariant-loop-i
invariant-loop-i g l = (j : ℕ) → j < l.i → reference_cell l.linked l.class j ≡ true
    → is_reference l.marked.now (slice_index (cells l.marked.now l.object) j) ≡ true
