use Rattle.std.proofs.Common.{◌≡◌, take}
use Rattle.jc_heap.specs.Component.{record_of}
use Rattle.jc_packages.proofs.known.record_words.Given as goal

abbrev pub invariant-loop-j : goal.invariant-loop-j
invariant-loop-j g l = l.words.items ≡ take l.j (record_of l.heap.now l.at)
