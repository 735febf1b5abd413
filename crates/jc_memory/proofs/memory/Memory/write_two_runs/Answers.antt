use Rattle.std.proofs.Common.{ap, ◌∙◌, ◌++◌, subst, sym}
use Rattle.jc_heap.specs.Place.{run_changes}
use Rattle.jc_heap.specs.HeapLaws.{AreLegalValues}
use Rattle.jc_heap.specs.Place.{AreThere}
use Rattle.jc_memory.proofs.KeptImages.{all_there, cells_there}
use Rattle.jc_memory.proofs.Marking.{known_change}
use Rattle.jc_memory.proofs.memory.Memory.write_two_runs.Goals as goal

pub invariant_of-self : goal.invariant_of-self
invariant_of-self g c =
    let k = known_change c.self.inside.marks c.self.inside.images c.self.inside.ram.sizes _ c.self.inside.heap c.set_two_runs-done.new.self c.set_two_runs-done.result _ _ c.set_two_runs-done.ensures
    (λ none. subst (λ s. AreLegalValues s.heap.now (run_changes c.args.first ++ (run_changes c.args.second ++ c.args.places.now))) (sym c.self.view_is)
    c.requires.references)
    tt (cells_there c.self.inside.heap.now c.args.first.object c.args.first.start c.args.first.bytes.now (run_changes c.args.second ++ c.args.places.now)
    (cells_there c.self.inside.heap.now c.args.second.object c.args.second.start c.args.second.bytes.now c.args.places.now
    (all_there c.self.inside.heap.now c.args.places.now (subst (λ s. AreThere s.heap.now c.args.places.now) (sym c.self.view_is) c.requires.there)))) (
      c.self.invariant.0.heap (ap (λ s. s.heap.down) c.self.view_is ∙ c.requires.up),
      c.self.invariant.1 (ap (λ s. s.heap.down) c.self.view_is ∙ c.requires.up),
      c.self.invariant.0.sizes (ap (λ s. s.heap.down) c.self.view_is ∙ c.requires.up),
    ) in
    (record { heap = k.0; ram = c.self.invariant.0.ram; sizes = k.2 }, k.1)

pub invariant_of-self-in_default : goal.invariant_of-self-in_default
invariant_of-self-in_default g c =
    let k = known_change c.self.inside.marks c.self.inside.images c.self.inside.ram.sizes _ c.self.inside.heap c.set_two_runs-done.new.self c.set_two_runs-done.result _ _ c.set_two_runs-done.ensures
    (λ none. subst (λ s. AreLegalValues s.heap.now (run_changes c.args.first ++ (run_changes c.args.second ++ c.args.places.now))) (sym c.self.view_is)
    c.requires.references)
    tt (cells_there c.self.inside.heap.now c.args.first.object c.args.first.start c.args.first.bytes.now (run_changes c.args.second ++ c.args.places.now)
    (cells_there c.self.inside.heap.now c.args.second.object c.args.second.start c.args.second.bytes.now c.args.places.now
    (all_there c.self.inside.heap.now c.args.places.now (subst (λ s. AreThere s.heap.now c.args.places.now) (sym c.self.view_is) c.requires.there)))) (
      c.self.invariant.0.heap (ap (λ s. s.heap.down) c.self.view_is ∙ c.requires.up),
      c.self.invariant.1 (ap (λ s. s.heap.down) c.self.view_is ∙ c.requires.up),
      c.self.invariant.0.sizes (ap (λ s. s.heap.down) c.self.view_is ∙ c.requires.up),
    ) in
    (record { heap = k.0; ram = c.self.invariant.0.ram; sizes = k.2 }, k.1)
