use Rattle.std.proofs.Common.{ℕ, List, ap, sym, ◌∙◌, length}
use Rattle.jc_heap.specs.Touch.{touch_words}
use Rattle.jc_heap.proofs.Costs.{cost_inside, cost_outside}
use Rattle.jc_heap.proofs.heap.Heap.cost.Goals as goal

pub returns-then-not-is_open : goal.returns-then-not-is_open
returns-then-not-is_open g c =
    sym (ap (λ (l : List ℕ). length l) (cost_outside c.args.self.now (touch_words c.args.self.now.now c.args.touches.now)
    (sym c.is_open.ensures.open ∙ c.if-not-is_open.true)))

pub returns : goal.returns
returns g c = c.count_unlogged.ensures
    ∙ sym (ap (λ (l : List ℕ). length l) (cost_inside c.args.self.now (touch_words c.args.self.now.now c.args.touches.now)
    (sym c.is_open.ensures.open ∙ c.if-not-is_open.false)))
