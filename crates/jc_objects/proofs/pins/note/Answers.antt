use Rattle.std.proofs.Common.{◌≡◌, ◌∙◌, ◌+◌, ◌++◌, ◌∷◌, [], ap, sym, arith}
use Rattle.jc_objects.specs.Pins.{try_word}
use Rattle.jc_objects.proofs.Walked.{noted_far, noted_here, noted_other}
use Rattle.jc_objects.proofs.pins.note.Goals as goal

pub returns-then-not-is_pin : goal.returns-then-not-is_pin
returns-then-not-is_pin g c = noted_other c.args.linked.now c.args.heap.now.now c.args.object c.args.found.now.items
    (sym c.is_pin.ensures ∙ c.if-not-is_pin.true)

pub returns-then-word-ge65536 : goal.returns-then-word-ge65536
returns-then-word-ge65536 g c = noted_far c.args.linked.now c.args.heap.now.now c.args.object c.args.found.now.items
    (sym c.is_pin.ensures ∙ c.if-not-is_pin.false) (omega (arith, c.address.ensures, c.from-word.ensures, c.if-word-ge65536.true))

pub returns : goal.returns
returns g c =
    let word : try_word c.args.object ≡ c.from-word.result + 6 = omega (arith, c.address.ensures, c.from-word.ensures) in
    c.in_ok-push.ensures.items
    ∙ ap (λ a. c.args.found.now.items ++ a ∷ []) (sym word)
    ∙ noted_here c.args.linked.now c.args.heap.now.now c.args.object c.args.found.now.items (sym c.is_pin.ensures ∙ c.if-not-is_pin.false)
    (omega (arith, word, c.if-word-ge65536.false))
