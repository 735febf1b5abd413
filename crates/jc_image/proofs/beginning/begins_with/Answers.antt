use Rattle.std.proofs.Common.{subst, IsTrue, ◌↔◌}
use Rattle.jc_heap.specs.Heap.{heap_of}
use Rattle.jc_image.specs.Beginning.{HeapBeginsWith, HeadersFollow}
use Rattle.jc_image.proofs.beginning.begins_with.Goals as goal

pub returns : goal.returns
unfolding HeapBeginsWith
returns g c = subst (λ r. IsTrue c.follows.result ↔ HeadersFollow (heap_of c.args.journal.now.plain) r c.args.first.now) c.null.ensures c.follows.ensures
