use Rattle.std.proofs.Common.{ap, ◌∙◌, sym, subst}
use Rattle.jc_heap.specs.Object.{is_object}
use Rattle.jc_memory.specs.Marks.{AreKnown}
use Rattle.jc_memory.proofs.Usable.{transient_suits}
use Rattle.jc_memory.proofs.Marking.{known_making, one_more}
use Rattle.jc_memory.proofs.memory.Memory.make_transient.Goals as goal

pub invariant_of-self : goal.invariant_of-self
invariant_of-self g c =
    let k = known_making c.self.inside.marks c.self.inside.images c.self.inside.ram.sizes _ c.self.inside.heap c.new_transient.new.self c.new_transient.result _ _ c.new_transient.ensures.moves
    (transient_suits c.self.inside.heap c.args.object.kind c.args.event c.args.object.class c.number-owner.result c.args.object.length)
    tt tt (
      c.self.invariant.0.heap (ap (λ s. s.heap.down) c.self.view_is ∙ c.requires.up),
      c.self.invariant.1 (ap (λ s. s.heap.down) c.self.view_is ∙ c.requires.up),
      c.self.invariant.0.sizes (ap (λ s. s.heap.down) c.self.view_is ∙ c.requires.up),
    ) in
    (record { heap = k.0; ram = c.self.invariant.0.ram; sizes = k.2 }, k.1)

pub invariant_of-self-2 : goal.invariant_of-self-2
invariant_of-self-2 g c =
    let k = known_making c.self.inside.marks c.self.inside.images c.self.inside.ram.sizes _ c.self.inside.heap c.new_transient.new.self c.new_transient.result _ _ c.new_transient.ensures.moves
    (transient_suits c.self.inside.heap c.args.object.kind c.args.event c.args.object.class c.number-owner.result c.args.object.length)
    tt tt (
      c.self.invariant.0.heap (ap (λ s. s.heap.down) c.self.view_is ∙ c.requires.up),
      c.self.invariant.1 (ap (λ s. s.heap.down) c.self.view_is ∙ c.requires.up),
      c.self.invariant.0.sizes (ap (λ s. s.heap.down) c.self.view_is ∙ c.requires.up),
    ) in (
      record { heap = k.0; ram = c.set_flag.ensures.sizes; sizes = λ up. c.set_flag.ensures.same ∙ c.fill.ensures.same ∙ k.2 up },
      subst (λ ms. AreKnown ms c.self.inside.images c.new_transient.new.self) (sym c.mark.ensures)
          (one_more c.self.inside.marks c.self.inside.images c.new_transient.new.self c.in_ok-r.r k.1 (λ up. ap is_object c.in_ok-r.ensures.made)),
    )
