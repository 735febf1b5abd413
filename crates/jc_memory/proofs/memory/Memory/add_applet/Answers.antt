use Rattle.std.proofs.Common.{ap, ◌∙◌, subst, sym, ◌<◌}
use Rattle.jc_words.specs.Layout.{most_applets}
use Rattle.jc_memory.proofs.Usable.{applet_suits}
use Rattle.jc_memory.proofs.Marking.{known_change}
use Rattle.jc_memory.proofs.memory.Memory.add_applet.Goals as goal

pub invariant_of-self : goal.invariant_of-self
invariant_of-self g c =
    let k = known_change c.self.inside.marks c.self.inside.images c.self.inside.ram.sizes _ c.self.inside.heap c.add_applet.new.self c.add_applet.result _ _ c.add_applet.ensures
    (λ none. applet_suits c.self.inside.heap c.args.entry (subst (λ s. s.heap.now.counts.1 < most_applets) (sym c.self.view_is) c.requires.few))
    tt (tt, (tt, (tt, (tt, tt)))) (
      c.self.invariant.0.heap (ap (λ s. s.heap.down) c.self.view_is ∙ c.requires.up),
      c.self.invariant.1 (ap (λ s. s.heap.down) c.self.view_is ∙ c.requires.up),
      c.self.invariant.0.sizes (ap (λ s. s.heap.down) c.self.view_is ∙ c.requires.up),
    ) in
    (record { heap = k.0; ram = c.self.invariant.0.ram; sizes = k.2 }, k.1)
