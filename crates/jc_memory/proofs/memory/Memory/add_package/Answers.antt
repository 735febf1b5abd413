use Rattle.std.proofs.Common.{ap, ◌∙◌, [], refl, subst, sym, ◌<◌}
use Rattle.jc_words.specs.Layout.{most_packages}
use Rattle.jc_memory.specs.Marks.{AreKnown}
use Rattle.jc_memory.proofs.Marking.{known_making}
use Rattle.jc_memory.proofs.memory.Memory.add_package.Goals as goal

pub invariant_of-self : goal.invariant_of-self
invariant_of-self g c =
    let up = ap (λ s. s.heap.down) c.self.view_is ∙ c.requires.up in
    let k = known_making c.self.inside.marks [] c.self.inside.ram.sizes _ c.self.inside.heap c.add_package.new.self c.add_package.result _ _ c.add_package.ensures.moves
    (λ none. (subst (λ s. s.heap.now.counts.0 < most_packages) (sym c.self.view_is) c.requires.few, c.requires.arrays))
    tt refl (c.self.invariant.0.heap up, ((c.self.invariant.1 up).0, tt), c.self.invariant.0.sizes up) in
    (record { heap = k.0; ram = c.self.invariant.0.ram; sizes = k.2 }, subst (λ is. AreKnown c.self.inside.marks is c.add_package.new.self) (sym c.none-self-inside.ensures) k.1)

pub of-self-inside-requires-clause-whole : goal.of-self-inside-requires-clause-whole
of-self-inside-requires-clause-whole g c =
    let up = ap (λ s. s.heap.down) c.self.view_is ∙ c.requires.up in
    let k = known_making c.self.inside.marks [] c.self.inside.ram.sizes _ c.self.inside.heap c.add_package.new.self c.add_package.result _ _ c.add_package.ensures.moves
    (λ none. (subst (λ s. s.heap.now.counts.0 < most_packages) (sym c.self.view_is) c.requires.few, c.requires.arrays))
    tt refl (c.self.invariant.0.heap up, ((c.self.invariant.1 up).0, tt), c.self.invariant.0.sizes up) in
    (k.0 (ap (λ v. v.down) c.in_ok-package.ensures.moves.2 ∙ up)).now.whole

pub invariant_of-self-2 : goal.invariant_of-self-2
invariant_of-self-2 g c =
    let up = ap (λ s. s.heap.down) c.self.view_is ∙ c.requires.up in
    let k = known_making c.self.inside.marks [] c.self.inside.ram.sizes _ c.self.inside.heap c.add_package.new.self c.add_package.result _ _ c.add_package.ensures.moves
    (λ none. (subst (λ s. s.heap.now.counts.0 < most_packages) (sym c.self.view_is) c.requires.few, c.requires.arrays))
    tt refl (c.self.invariant.0.heap up, ((c.self.invariant.1 up).0, tt), c.self.invariant.0.sizes up) in
    (record { heap = k.0; ram = c.self.invariant.0.ram; sizes = k.2 }, λ still. (c.scan.ensures still, c.of-self-inside.ensures))
