use Rattle.std.proofs.Common.{subst}
use Rattle.jc_heap.specs.Heap.Store.{HoldsHeap}
use Rattle.jc_heap.proofs.Holding.{holds}
use Rattle.jc_heap.proofs.heap.Heap.into_store.Goals as goal

pub returns : goal.returns
returns g c =
    let w = g.S.WordStore.words c.into_store.result in
    let e = c.into_store.ensures in
    subst (HoldsHeap w (g.S.WordStore.down c.into_store.result) (g.S.WordStore.passed c.into_store.result) (g.S.WordStore.refusals c.into_store.result))
    c.self.view_is
    (holds w _ _ _ c.self.inside.journal c.self.inside.size
    (record {
      good = e.stands.good;
      plain = e.stands.plain;
      recovered = e.stands.recovered;
      size = e.size;
      down = e.down;
      passed = e.passed;
      refusals = e.refusals;
      closed = e.closed;
      current = e.current;
    })
    c.self.invariant.back c.self.invariant.size_recovered)
