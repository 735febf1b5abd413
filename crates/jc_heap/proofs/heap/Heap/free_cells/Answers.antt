use Rattle.std.proofs.Common.{◌-◌, ◌≡◌, ◌∙◌, ap, arith, get_or, sym}
use Rattle.jc_heap.specs.Heap.{area_end, area_end_address}
use Rattle.jc_heap.proofs.Changing.{up_is}
use Rattle.jc_heap.proofs.NewObjects.{view_area}
use Rattle.jc_heap.proofs.heap.Heap.free_cells.Goals as goal

pub returns : goal.returns
returns g c =
    let at : c.read-end.result ≡ get_or c.self.inside.journal.plain (area_end_address c.args.event) 0 = c.read-end.ensures
    ∙ ap (λ a. get_or c.self.inside.journal.plain a 0) c.area_word.ensures in
    let va : area_end c.args.self.now.now c.args.event ≡ get_or c.self.inside.journal.plain (area_end_address c.args.event) 0 =
    view_area c.self.inside.journal c.args.self.now c.self.inside.size c.args.event c.self.view_is
    (c.self.invariant.now (up_is c.self.inside.journal c.args.self.now c.self.inside.size c.self.view_is c.requires)) in
    c.saturating_sub.ensures ∙ (λ i. c.area_limit.ensures i - (at ∙ sym va) i)
