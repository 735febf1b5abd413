use Rattle.std.proofs.Common.{length, ap, ◌∙◌, ◌+◌, sym, arith}
use Rattle.jc_heap.specs.Heap.{HeapView}
use Rattle.jc_heap.proofs.RawWords.{capacity_is}
use Rattle.jc_heap.proofs.heap.Heap.room.Goals as goal

pub returns-clause-within : goal.returns-clause-within
returns-clause-within g c =
    ap (λ (v : HeapView). c.room.result + length v.touched) (sym c.self.view_is) ∙ c.room.ensures.exact
    ∙ sym (capacity_is c.self.inside.journal.recovered c.self.invariant.back) ∙ ap (λ (v : HeapView). v.durable.capacity) c.self.view_is

pub returns-clause-left : goal.returns-clause-left
returns-clause-left g c = let within = returns-clause-within g c in omega (arith, within)
