use Rattle.std.proofs.Common.{◌≡◌, ℕ, ◌<◌, slice_index}
use Rattle.jc_heap.specs.Component.{record_of}
use Rattle.jc_packages.proofs.known.agrees.Given as goal

abbrev pub invariant-loop-j : goal.invariant-loop-j
invariant-loop-j g l = (i : ℕ) → i < l.j → slice_index l.words i ≡ slice_index (record_of l.heap.now l.at) i
