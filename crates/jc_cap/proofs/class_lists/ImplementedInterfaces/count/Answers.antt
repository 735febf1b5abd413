use Rattle.jc_cap.specs.ClassLists.{implemented_at}
use Rattle.jc_cap.proofs.Lent.{count_is}
use Rattle.jc_cap.proofs.class_lists.ImplementedInterfaces.count.Goals as goal

pub returns : goal.returns
returns c = count_is implemented_at c.self.inside.count c.self.inside.bytes.now c.args.self.now c.self.invariant c.self.view_is
