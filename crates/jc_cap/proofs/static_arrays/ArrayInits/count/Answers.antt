use Rattle.jc_cap.specs.StaticReading.{static_array_at}
use Rattle.jc_cap.proofs.Lent.{count_is}
use Rattle.jc_cap.proofs.static_arrays.ArrayInits.count.Goals as goal

pub returns : goal.returns
returns c = count_is static_array_at c.self.inside.count c.self.inside.bytes.now c.args.self.now c.self.invariant c.self.view_is
