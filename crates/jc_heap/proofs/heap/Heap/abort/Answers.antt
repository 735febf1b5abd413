use Rattle.std.proofs.Common.{◌≡◌, ◌∙◌, ap, subst, sym}
use Rattle.jc_heap.specs.Heap.{heap_of, KeepsBelowTop}
use Rattle.jc_heap.proofs.Changing.{up_is}
use Rattle.jc_heap.proofs.Views.{abort_keeps}
use Rattle.jc_heap.proofs.heap.Heap.abort.Goals as goal

pub returns-clause-names : goal.returns-clause-names
returns-clause-names g c =
    let new : heap_of c.abort.new.self.plain ≡ c.args.self.now.durable = ap (λ j. heap_of j.plain) c.in_ok-abort.ensures.ok
    ∙ ap (λ v. v.durable) c.self.view_is in
    subst (KeepsBelowTop c.args.self.now.now) (sym new) (abort_keeps c.self.inside.journal c.args.self.now c.self.inside.size c.self.view_is
    (up_is c.self.inside.journal c.args.self.now c.self.inside.size c.self.view_is c.requires.up) c.self.invariant)
