use Rattle.jc_heap.proofs.MoveLaws.{keeps_durable}
use Rattle.jc_heap.proofs.heap_laws.transactions_keep_what_is_durable.Goals as goal

pub returns : goal.returns
returns c = keeps_durable
