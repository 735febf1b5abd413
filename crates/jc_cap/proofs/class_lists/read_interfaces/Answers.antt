use Rattle.jc_cap.specs.ClassLists.{implemented_at}
use Rattle.jc_cap.proofs.Lent.{is_list}
use Rattle.jc_cap.proofs.class_lists.read_interfaces.Goals as goal

pub invariant_of-result : goal.invariant_of-result
invariant_of-result c = is_list implemented_at c.args.count c.args.bytes.now c.in_ok-rest.rest.now c.in_ok-rest.ensures
