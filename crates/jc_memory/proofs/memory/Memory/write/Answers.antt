use Rattle.std.proofs.Common.{ap, ◌∙◌, subst, sym}
use Rattle.jc_heap.specs.HeapLaws.{IsLegalValue}
use Rattle.jc_heap.specs.Place.{HasPlace}
use Rattle.jc_memory.proofs.KeptImages.{is_there}
use Rattle.jc_memory.proofs.Marking.{known_change}
use Rattle.jc_memory.proofs.memory.Memory.write.Goals as goal

pub invariant_of-self : goal.invariant_of-self
invariant_of-self g c =
    let k = known_change c.self.inside.marks c.self.inside.images c.self.inside.ram.sizes _ c.self.inside.heap c.write-done.new.self c.write-done.result _ _ c.write-done.ensures
    (λ none. subst (λ s. IsLegalValue s.heap.now c.args.place c.args.v) (sym c.self.view_is) c.requires.reference)
    tt (is_there c.self.inside.heap.now c.args.place (subst (λ s. HasPlace s.heap.now c.args.place) (sym c.self.view_is) c.requires.there)) (
      c.self.invariant.0.heap (ap (λ s. s.heap.down) c.self.view_is ∙ c.requires.up),
      c.self.invariant.1 (ap (λ s. s.heap.down) c.self.view_is ∙ c.requires.up),
      c.self.invariant.0.sizes (ap (λ s. s.heap.down) c.self.view_is ∙ c.requires.up),
    ) in
    (record { heap = k.0; ram = c.self.invariant.0.ram; sizes = k.2 }, k.1)

pub invariant_of-self-in_default : goal.invariant_of-self-in_default
invariant_of-self-in_default g c =
    let k = known_change c.self.inside.marks c.self.inside.images c.self.inside.ram.sizes _ c.self.inside.heap c.write-done.new.self c.write-done.result _ _ c.write-done.ensures
    (λ none. subst (λ s. IsLegalValue s.heap.now c.args.place c.args.v) (sym c.self.view_is) c.requires.reference)
    tt (is_there c.self.inside.heap.now c.args.place (subst (λ s. HasPlace s.heap.now c.args.place) (sym c.self.view_is) c.requires.there)) (
      c.self.invariant.0.heap (ap (λ s. s.heap.down) c.self.view_is ∙ c.requires.up),
      c.self.invariant.1 (ap (λ s. s.heap.down) c.self.view_is ∙ c.requires.up),
      c.self.invariant.0.sizes (ap (λ s. s.heap.down) c.self.view_is ∙ c.requires.up),
    ) in
    (record { heap = k.0; ram = c.self.invariant.0.ram; sizes = k.2 }, k.1)
