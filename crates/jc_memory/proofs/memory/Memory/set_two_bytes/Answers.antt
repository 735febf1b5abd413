use Rattle.std.proofs.Common.{ap}
use Rattle.jc_memory.proofs.Usable.{within_area}
use Rattle.jc_memory.proofs.memory.Memory.set_two_bytes.Goals as goal

pub put_bytes-requires : goal.put_bytes-requires
put_bytes-requires g c = within_area c.args.self.now c.self.inside.ram c.args.object c.args.i 2 c.facts-facts.result c.in-Some.event
    (ap (λ s. s.ram) c.self.view_is) c.facts-facts.ensures c.in-Some.is c.requires.cells
