use Rattle.jc_cap.specs.Reading.{u2_at}
use Rattle.jc_cap.proofs.Lent.{is_list}
use Rattle.jc_cap.proofs.lists.u2_list.Goals as goal

pub invariant_of-result : goal.invariant_of-result
invariant_of-result c = is_list u2_at c.args.count c.args.bytes.now c.in_ok-rest.rest.now c.in_ok-rest.ensures
