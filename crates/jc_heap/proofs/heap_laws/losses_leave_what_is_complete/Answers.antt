use Rattle.jc_heap.proofs.Losses.{complete}
use Rattle.jc_heap.proofs.heap_laws.losses_leave_what_is_complete.Goals as goal

pub returns : goal.returns
returns c = complete
