use Rattle.jc_heap.proofs.KeepingMoves.{keeps_whole}
use Rattle.jc_heap.proofs.heap_laws.changes_keep_a_heap_whole.Goals as goal

pub returns : goal.returns
returns c = keeps_whole
