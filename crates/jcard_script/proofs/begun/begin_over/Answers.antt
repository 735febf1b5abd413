use Rattle.std.proofs.Common.{ap}
use Rattle.jc_heap.specs.Heap.{HeapView}
use Rattle.jcard_script.proofs.begun.begin_over.Goals as goal

pub invariant_of-result : goal.invariant_of-result
invariant_of-result c = (ap (λ (v : HeapView). v.down) c.in_ok-card.ensures.heap, c.in_ok-card.ensures.reset.load)
