use Rattle.std.proofs.Common.{ℕ, length, ap, sym, ◌∙◌, nat_le}
use Rattle.std.proofs.lemmas.List.{length-map}
use Rattle.jc_heap.specs.Touch.{touch_word, touch_words}
use Rattle.jc_heap.proofs.Costs.{fits_inside, fits_outside}
use Rattle.jc_heap.proofs.heap.Heap.fits.Goals as goal

pub returns-then-is_open : goal.returns-then-is_open
returns-then-is_open g c =
    fits_inside c.args.self.now (touch_words c.args.self.now.now c.args.touches.now) c.room.result c.cost.result (sym c.is_open.ensures.open ∙ c.if-is_open.true)
    c.room.ensures.within c.cost.ensures

pub returns : goal.returns
returns g c =
    ap (λ (n : ℕ). nat_le (length c.args.touches.now) n) c.commit_capacity.ensures.exact
    ∙ ap (λ (n : ℕ). nat_le n c.args.self.now.durable.capacity) (sym (length-map c.args.touches.now (touch_word c.args.self.now.now)))
    ∙ fits_outside c.args.self.now (touch_words c.args.self.now.now c.args.touches.now) (sym c.is_open.ensures.open ∙ c.if-is_open.false)
