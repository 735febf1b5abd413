use Rattle.std.proofs.Common.{ap, ◌∙◌, subst}
use Rattle.jc_memory.specs.Cells.{IsHeaderOf}
use Rattle.jc_memory.proofs.Usable.{header_of}
use Rattle.jc_memory.proofs.memory.Memory.facts.Goals as goal

pub returns : goal.returns
returns g c = subst (λ s. IsHeaderOf s c.args.object c.facts.result) c.self.view_is
    (header_of _ c.args.object c.facts.result (c.self.invariant.0.heap (ap (λ s. s.heap.down) c.self.view_is ∙ c.requires.up))
    (c.self.invariant.0.sizes (ap (λ s. s.heap.down) c.self.view_is ∙ c.requires.up)) c.facts.ensures.facts
    c.facts.ensures.cells)
