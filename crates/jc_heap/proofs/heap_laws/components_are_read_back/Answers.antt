use Rattle.jc_heap.proofs.ReadBack.{reads_back}
use Rattle.jc_heap.proofs.heap_laws.components_are_read_back.Goals as goal

pub returns : goal.returns
returns c = reads_back
