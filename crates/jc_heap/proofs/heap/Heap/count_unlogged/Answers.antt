use Rattle.std.proofs.Common.{◌≡◌, ◌+◌, ℕ, Bool, length, take, get_or, ap, sym, ◌∙◌, arith, if◌then◌else◌}
use Rattle.jc_heap.specs.declared.touch.Touch.{Touch}
use Rattle.jc_heap.specs.Heap.{goes_back}
use Rattle.jc_heap.specs.Touch.{touch_word, touch_words}
use Rattle.jc_heap.proofs.Costs.{staying, staying_more, told}
use Rattle.jc_heap.proofs.heap.Heap.count_unlogged.Goals as goal
use Rattle.jc_heap.proofs.heap.Heap.count_unlogged.Goals.{then-not-goes_back, else-not-goes_back}

pub loop-touch-preserved : goal.loop-touch-preserved
loop-touch-preserved g c =
    let v = c.args.self.now in
    let touches = c.args.touches.now in
    let k = c.loop-touch.touch-index in
    let item = c.touch-item.result in
    let old = c.loop-touch.invariant in
    let back : goes_back v (touch_word v.now (get_or touches k item)) ≡ c.goes_back.result =
    ap (λ (t : Touch). goes_back v (touch_word v.now t)) (sym c.touch-item.is) ∙ ap (λ (word : ℕ). goes_back v word) (sym c.touch_word.ensures)
    ∙ told c.self.inside.journal v c.self.inside.size c.touch_word.result c.goes_back.result c.self.view_is c.self.invariant.back c.goes_back.ensures in
    let more : length (staying v (touch_words v.now (take (k + 1) touches))) ≡ length (staying v (touch_words v.now (take k touches)))
    + (if c.goes_back.result then 0 else 1) = staying_more v touches k item c.goes_back.result c.loop-touch-test.true back in
    elim c.if-not-goes_back.branch [
      | then-not-goes_back w ↦
          let one : ◌≡◌ {A = ℕ} (if c.goes_back.result then 0 else 1) 1 = ap (λ (b : Bool). if b then 0 else 1) w.if-not-goes_back.true in
          record { few = omega (arith, w.count-is, old.few); count = omega (arith, w.count-is, old.count, more, one) }
      | else-not-goes_back w ↦
          let none : ◌≡◌ {A = ℕ} (if c.goes_back.result then 0 else 1) 0 = ap (λ (b : Bool). if b then 0 else 1) w.if-not-goes_back.false in
          record { few = omega (arith, w.count-is, old.few); count = omega (arith, w.count-is, old.count, more, none) }
    ]
