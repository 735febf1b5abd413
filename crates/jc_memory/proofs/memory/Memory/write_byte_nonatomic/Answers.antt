use Rattle.std.proofs.Common.{ap, ◌∙◌}
use Rattle.jc_heap.specs.Heap.{facts}
use Rattle.jc_memory.proofs.Usable.{byte_suits}
use Rattle.jc_memory.proofs.Marking.{known_step}
use Rattle.jc_memory.proofs.memory.Memory.write_byte_nonatomic.Goals as goal

pub invariant_of-self : goal.invariant_of-self
invariant_of-self g c =
    let up = ap (λ s. s.heap.down) c.self.view_is ∙ c.requires.up in
    let whole = c.self.invariant.0.heap up in
    let k = known_step c.self.inside.marks c.self.inside.images c.self.inside.ram.sizes c.self.inside.heap c.write_both.new.self c.write_both.result _ _ c.write_both.ensures
    (byte_suits c.self.inside.heap c.args.array c.args.i c.from.result whole (ap (λ s. (facts s.heap.now c.args.array).kind) c.self.view_is ∙ c.requires.kind))
    tt tt (whole, c.self.invariant.1 up, c.self.invariant.0.sizes up) in
    (record { heap = k.0; ram = c.self.invariant.0.ram; sizes = k.2 }, k.1)
