use Rattle.std.proofs.Common.{ap, ◌∙◌}
use Rattle.jc_memory.proofs.Marking.{known_step}
use Rattle.jc_memory.proofs.memory.Memory.commit.Goals as goal

pub invariant_of-self : goal.invariant_of-self
invariant_of-self g c =
    let up = ap (λ s. s.heap.down) c.self.view_is ∙ c.requires.up in
    let k = known_step c.self.inside.marks c.self.inside.images c.self.inside.ram.sizes c.self.inside.heap c.commit.new.self c.commit.result _ _ c.commit.ensures
    tt tt tt (c.self.invariant.0.heap up, c.self.invariant.1 up, c.self.invariant.0.sizes up) in
    (record { heap = k.0; ram = c.self.invariant.0.ram; sizes = k.2 }, k.1)
