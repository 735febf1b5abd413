use Rattle.std.proofs.Common.{ap, length, ◌∙◌, sym}
use Rattle.jc_heap.specs.Heap.{facts}
use Rattle.jc_memory.proofs.Marking.{known_change}
use Rattle.jc_memory.proofs.Usable.{within_area}
use Rattle.jc_memory.proofs.memory.Memory.set_run.Goals as goal

pub invariant_of-self : goal.invariant_of-self
invariant_of-self g c =
    let k = known_change c.self.inside.marks c.self.inside.images c.self.inside.ram.sizes _ c.self.inside.heap c.set_run-done.new.self c.set_run-done.result _ _ c.set_run-done.ensures
    (λ none kind. absurd (c.requires.values.numbers (ap (λ s. (facts s.heap.now c.args.object).kind) (sym c.self.view_is) ∙ kind)))
    tt tt (
      c.self.invariant.0.heap (ap (λ s. s.heap.down) c.self.view_is ∙ c.requires.up),
      c.self.invariant.1 (ap (λ s. s.heap.down) c.self.view_is ∙ c.requires.up),
      c.self.invariant.0.sizes (ap (λ s. s.heap.down) c.self.view_is ∙ c.requires.up),
    ) in
    (record { heap = k.0; ram = c.self.invariant.0.ram; sizes = k.2 }, k.1)

pub invariant_of-self-in_default : goal.invariant_of-self-in_default
invariant_of-self-in_default g c =
    let k = known_change c.self.inside.marks c.self.inside.images c.self.inside.ram.sizes _ c.self.inside.heap c.set_run-done.new.self c.set_run-done.result _ _ c.set_run-done.ensures
    (λ none kind. absurd (c.requires.values.numbers (ap (λ s. (facts s.heap.now c.args.object).kind) (sym c.self.view_is) ∙ kind)))
    tt tt (
      c.self.invariant.0.heap (ap (λ s. s.heap.down) c.self.view_is ∙ c.requires.up),
      c.self.invariant.1 (ap (λ s. s.heap.down) c.self.view_is ∙ c.requires.up),
      c.self.invariant.0.sizes (ap (λ s. s.heap.down) c.self.view_is ∙ c.requires.up),
    ) in
    (record { heap = k.0; ram = c.self.invariant.0.ram; sizes = k.2 }, k.1)

pub put_words-requires : goal.put_words-requires
put_words-requires g c = within_area c.args.self.now c.self.inside.ram c.args.object c.args.i (length c.args.words.now) c.facts-facts.result c.in-Some.event
    (ap (λ s. s.ram) c.self.view_is) c.facts-facts.ensures c.in-Some.is c.requires.cells
