use Rattle.jc_cap.specs.MethodReading.{handler_at}
use Rattle.jc_cap.proofs.Lent.{count_is}
use Rattle.jc_cap.proofs.handlers.Handlers.count.Goals as goal

pub returns : goal.returns
returns c = count_is handler_at c.self.inside.count c.self.inside.bytes.now c.args.self.now c.self.invariant c.self.view_is
