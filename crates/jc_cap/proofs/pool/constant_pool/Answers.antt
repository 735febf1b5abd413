use Rattle.jc_cap.specs.Pool.{entry_at}
use Rattle.jc_cap.proofs.Lent.{is_list}
use Rattle.jc_cap.proofs.pool.constant_pool.Goals as goal

pub invariant_of-result : goal.invariant_of-result
invariant_of-result c = is_list entry_at c.in_ok-count.count c.in_ok-count.bytes.now c.in_ok-rest.rest.now c.in_ok-rest.ensures
