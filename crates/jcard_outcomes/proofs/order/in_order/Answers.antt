use Rattle.std.proofs.Common.{ap, arith, ◌∙◌, sym}
use Rattle.std.proofs.lemmas.Result.{err_from_is_err_and}
use Rattle.jcard_outcomes.proofs.Ends.{lent, lent_length}
use Rattle.jcard_outcomes.proofs.Orders.{order_all, order_begun, order_next}
use Rattle.jcard_outcomes.proofs.order.in_order.Goals as goal

pub loop-number-init : goal.loop-number-init
loop-number-init c = order_begun c.args.label.now (lent c.args.texts.now) (lent c.new-ordered.result.items) (ap lent c.new-ordered.ensures.items)

pub loop-number-preserved : goal.loop-number-preserved
loop-number-preserved c = order_next c.args.label.now (lent c.args.texts.now) (lent c.loop-number.ordered.items) (lent c.push_text.new.texts.items) c.loop-number.number
    c.in_ok-place.place c.text_at.result.now c.loop-number.invariant c.in_ok-place.ensures c.text_at.ensures c.in_ok-push_text.ensures.pushed

pub returns-in_err-place-clause-placed : goal.returns-in_err-place-clause-placed
returns-in_err-place-clause-placed c =
    let p = err_from_is_err_and c.from_residual.result c.from_residual.ensures.1 in
    rw (p.1, p.2) (c.loop-number.number, omega (arith, lent_length c.args.texts.now, c.loop-number-test.true), c.in_err-place.ensures)

pub returns-in_err-push_text-clause-placed : goal.returns-in_err-push_text-clause-placed
returns-in_err-push_text-clause-placed c =
    let p = err_from_is_err_and c.from_residual-in_err-push_text.result c.from_residual-in_err-push_text.ensures.1 in
    rw (p.1, p.2 ∙ c.in_err-push_text.ensures.refused)
    (c.loop-number.number, omega (arith, lent_length c.args.texts.now, c.loop-number-test.true), tt)

pub returns-clause-placed : goal.returns-clause-placed
returns-clause-placed c = order_all c.args.label.now (lent c.args.texts.now) (lent c.loop-number.ordered.items) c.loop-number.number c.loop-number.invariant
    (omega (arith, lent_length c.args.texts.now, c.loop-number-test.false, c.loop-number.auto.number-end))
