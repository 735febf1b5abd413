use Rattle.std.proofs.Common.{inl, inr, sym, subst}
use Rattle.std.proofs.lemmas.Bool.{iff_false}
use Rattle.jcard_outcomes.specs.Answers.{FitsUnspaced}
use Rattle.jcard_outcomes.proofs.Comparisons.{answered_all, answered_next, answered_none, unlike_at}
use Rattle.jcard_outcomes.proofs.comparison.first_unlike.Goals as goal

pub loop-place-init : goal.loop-place-init
loop-place-init c = answered_none c.args.text.now

pub returns-in_default-clause-told : goal.returns-in_default-clause-told
returns-in_default-clause-told c = unlike_at c.args.rows.now c.loop-place.place c.index-rows-place.result c.args.text.now c.loop-place.rest.now c.next_line.result.0.now
    c.loop-place-test.true c.index-rows-place.is c.loop-place.invariant (c.next_line.ensures.line, inl (rw c.in_default.is at c.next_line.ensures.rest))

pub returns-then-not-fits-clause-told : goal.returns-then-not-fits-clause-told
returns-then-not-fits-clause-told c =
    let wanted = c.as_bytes.ensures.value in
    let split = rw c.in-Some.is at c.next_line.ensures.rest in
    let unfit = iff_false c.fits.ensures c.if-not-fits.true in
    unlike_at c.args.rows.now c.loop-place.place c.index-rows-place.result c.args.text.now c.loop-place.rest.now c.next_line.result.0.now
    c.loop-place-test.true c.index-rows-place.is c.loop-place.invariant
    (c.next_line.ensures.line, inr (c.in-Some.more.now, split, (λ f. unfit (subst (λ w. FitsUnspaced w c.next_line.result.0.now) (sym wanted) f))))

pub loop-place-preserved : goal.loop-place-preserved
loop-place-preserved c =
    let split = rw c.in-Some.is at c.next_line.ensures.rest in
    let fits = subst (λ w. FitsUnspaced w c.next_line.result.0.now) c.as_bytes.ensures.value (c.fits.ensures.0 c.if-not-fits.false) in
    answered_next c.args.rows.now c.loop-place.place c.index-rows-place.result c.args.text.now c.loop-place.rest.now c.next_line.result.0.now c.in-Some.more.now
    c.loop-place-test.true c.index-rows-place.is c.loop-place.invariant c.next_line.ensures.line split fits

pub returns-clause-told : goal.returns-clause-told
returns-clause-told c = (c.loop-place.rest.now, answered_all c.args.rows.now c.loop-place.place c.args.text.now c.loop-place.rest.now c.loop-place-test.false c.loop-place.invariant)
