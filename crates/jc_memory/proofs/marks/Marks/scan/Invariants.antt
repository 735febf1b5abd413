use Rattle.std.proofs.Common.{◌≡◌}
use Rattle.jc_heap.specs.Heap.{IsObject}
use Rattle.jc_memory.specs.Marks.{AreObjects}
use Rattle.jc_memory.proofs.marks.Marks.scan.Given as goal

abbrev pub invariant-loop-turn : goal.invariant-loop-turn
invariant-loop-turn g l = AreObjects l.self l.heap × ((l.last ≡ 0 → ⊥) → IsObject l.heap.now l.last)
