use Rattle.std.proofs.Common.{ap, arith}
use Rattle.jc_memory.proofs.Usable.{within_area}
use Rattle.jc_memory.proofs.memory.Memory.word.Goals as goal

pub get-requires-in-Some : goal.get-requires-in-Some
get-requires-in-Some g c =
    let within = within_area c.args.self.now c.self.inside.ram c.args.object c.args.i 1 c.facts-facts.result c.in-Some.event
    (ap (λ s. s.ram) c.self.view_is) c.facts-facts.ensures c.in-Some.is (omega (arith, c.requires.cell)) in omega (arith, within)
