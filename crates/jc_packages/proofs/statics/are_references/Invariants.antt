use Rattle.std.proofs.Common.{◌≡◌, ℕ, ◌+◌, ◌<◌, true, slice_index}
use Rattle.jc_heap.specs.Component.{record_of}
use Rattle.jc_packages.specs.Objects.{is_reference}
use Rattle.jc_packages.proofs.statics.are_references.Given as goal

abbrev pub invariant-loop-i : goal.invariant-loop-i
invariant-loop-i g l = (j : ℕ) → j < l.i → is_reference l.marked.now (slice_index (record_of l.marked.now l.at) (l.begin + j)) ≡ true
