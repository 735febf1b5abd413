use Rattle.std.proofs.Common.{ap, ◌∙◌, sym}
use Rattle.jc_heap.specs.Heap.{HeapView}
use Rattle.jc_heap.proofs.RawWords.{capacity_is}
use Rattle.jc_heap.proofs.heap.Heap.commit_capacity.Goals as goal

pub returns-clause-exact : goal.returns-clause-exact
returns-clause-exact g c =
    c.capacity.ensures.exact ∙ sym (capacity_is c.self.inside.journal.recovered c.self.invariant.back) ∙ ap (λ (v : HeapView). v.durable.capacity) c.self.view_is
