use Rattle.std.proofs.Common.{ap, arith, ◌≡◌, ◌+◌, ◌<◌, [], ◌∷◌, ◌∙◌, subst, sym}
use Rattle.jc_transient.specs.State.{area, area_size, with_area, with_cells}
use Rattle.jc_memory.proofs.Running.{one_cell_set}
use Rattle.std.proofs.lemmas.Grind.{common_steps}
use Rattle.jc_heap.specs.declared.place.Place.TheVariants.{Cell}
use Rattle.jc_heap.specs.HeapLaws.{IsLegalValue}
use Rattle.jc_memory.specs.Cells.{word_of}
use Rattle.jc_memory.proofs.Marking.{known_change}
use Rattle.jc_memory.proofs.Usable.{within_area}
use Rattle.jc_memory.proofs.memory.Memory.set_known.Goals as goal

pub invariant_of-self : goal.invariant_of-self
invariant_of-self g c =
    let k = known_change c.self.inside.marks c.self.inside.images c.self.inside.ram.sizes _ c.self.inside.heap c.set_known-done.new.self c.set_known-done.result _ _ c.set_known-done.ensures
    (λ none. rw c.word_of.ensures (subst (λ s. IsLegalValue s.heap.now (Cell c.args.object c.args.i) (word_of c.args.value))
    (sym c.self.view_is) c.requires.value.reference))
    tt tt (
      c.self.invariant.0.heap (ap (λ s. s.heap.down) c.self.view_is ∙ c.requires.up),
      c.self.invariant.1 (ap (λ s. s.heap.down) c.self.view_is ∙ c.requires.up),
      c.self.invariant.0.sizes (ap (λ s. s.heap.down) c.self.view_is ∙ c.requires.up),
    ) in
    (record { heap = k.0; ram = c.self.invariant.0.ram; sizes = k.2 }, k.1)

pub invariant_of-self-in_default : goal.invariant_of-self-in_default
invariant_of-self-in_default g c =
    let k = known_change c.self.inside.marks c.self.inside.images c.self.inside.ram.sizes _ c.self.inside.heap c.set_known-done.new.self c.set_known-done.result _ _ c.set_known-done.ensures
    (λ none. rw c.word_of.ensures (subst (λ s. IsLegalValue s.heap.now (Cell c.args.object c.args.i) (word_of c.args.value))
    (sym c.self.view_is) c.requires.value.reference))
    tt tt (
      c.self.invariant.0.heap (ap (λ s. s.heap.down) c.self.view_is ∙ c.requires.up),
      c.self.invariant.1 (ap (λ s. s.heap.down) c.self.view_is ∙ c.requires.up),
      c.self.invariant.0.sizes (ap (λ s. s.heap.down) c.self.view_is ∙ c.requires.up),
    ) in
    (record { heap = k.0; ram = c.self.invariant.0.ram; sizes = k.2 }, k.1)

pub set-requires : goal.set-requires
set-requires g c = omega (
  arith,
  within_area c.args.self.now c.self.inside.ram c.args.object c.args.i 1 c.args.header c.in-Some.event
      (ap (λ s. s.ram) c.self.view_is) c.requires.header c.in-Some.is (omega (arith, c.requires.cell, ap (λ f. f.length) c.requires.header.is)),
)

pub returns-in-Some : goal.returns-in-Some
returns-in-Some g c =
    let fits : c.args.header.place + c.args.i < area_size c.self.inside.ram c.in-Some.event = omega (
      arith,
      within_area c.args.self.now c.self.inside.ram c.args.object c.args.i 1 c.args.header c.in-Some.event
          (ap (λ s. s.ram) c.self.view_is) c.requires.header c.in-Some.is (omega (arith, c.requires.cell, ap (λ f. f.length) c.requires.header.is)),
    ) in
    let done : c.set.new.self ≡ with_area c.self.inside.ram c.in-Some.event (with_cells (area c.self.inside.ram c.in-Some.event)
    (c.args.header.place + c.args.i) (c.args.value ∷ [])) =
    c.set.ensures.done ∙ one_cell_set c.self.inside.ram c.in-Some.event (c.args.header.place + c.args.i) c.args.value c.self.invariant.0.ram fits in
    grind (arith, common_steps, done)
