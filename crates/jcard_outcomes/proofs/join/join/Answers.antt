use Rattle.std.proofs.Common.{arith, inl, length, subst}
use Rattle.std.proofs.lemmas.Result.{err_from_is_err_and}
use Rattle.jcard_outcomes.proofs.Ends.{lent, lent_length}
use Rattle.jcard_outcomes.proofs.Orders.{bodies_ordered, bodies_placed, of_order}
use Rattle.jcard_outcomes.proofs.join.join.Goals as goal

pub joined_in_order-requires : goal.joined_in_order-requires
joined_in_order-requires c = rw c.deref.ensures.value
    (omega (arith, c.in_ok-ordered.ensures.placed.all, lent_length c.args.texts.now, lent_length c.in_ok-ordered.ordered.items, c.requires))

pub returns-clause-joined : goal.returns-clause-joined
returns-clause-joined c = of_order c.args.depth (lent c.args.texts.now) (lent c.in_ok-ordered.ordered.items) c.joined_in_order.result c.in_ok-ordered.ensures.placed
    (rw c.deref.ensures.value at c.joined_in_order.ensures.joined)

pub returns-clause-parts : goal.returns-clause-parts
returns-clause-parts c = λ s tellable bodies.
    let parts = rw c.deref.ensures.value at c.joined_in_order.ensures.parts in
    parts s tellable (bodies_ordered s (lent c.args.texts.now) (lent c.in_ok-ordered.ordered.items) c.in_ok-ordered.ensures.placed bodies)

pub returns-in_err-ordered-clause-joined : goal.returns-in_err-ordered-clause-joined
returns-in_err-ordered-clause-joined c =
    let p = err_from_is_err_and c.from_residual.result c.from_residual.ensures.1 in
    rw (p.1, p.2) (inl c.in_err-ordered.ensures.placed)

pub returns-in_err-ordered-clause-parts : goal.returns-in_err-ordered-clause-parts
returns-in_err-ordered-clause-parts c = λ s tellable bodies.
    let p = err_from_is_err_and c.from_residual.result c.from_residual.ensures.1 in
    rw (p.1, p.2) (bodies_placed s (lent c.args.texts.now) c.in_err-ordered.field-0.0
    (omega (arith, lent_length c.args.texts.now, c.in_order.ensures.few)) bodies c.in_err-ordered.ensures.placed)
