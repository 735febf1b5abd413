use Rattle.jc_cap.specs.MethodReading.{handler_at}
use Rattle.jc_cap.proofs.Lent.{is_list}
use Rattle.jc_cap.proofs.handlers.read_handlers.Goals as goal

pub invariant_of-result : goal.invariant_of-result
invariant_of-result c = is_list handler_at c.args.count c.args.bytes.now c.in_ok-rest.rest.now c.in_ok-rest.ensures
