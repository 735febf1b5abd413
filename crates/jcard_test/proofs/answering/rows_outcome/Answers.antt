use Rattle.std.proofs.Common.{◌∙◌, ◌+◌, ap, length, min, refl, drop, subst}
use Rattle.jcard_test.specs.Tests.{AreAnsweredOn, EndsOn}
use Rattle.jcard_outcomes.specs.declared.tested.Outcome.TheVariants.{Held, Failed}
use Rattle.jcard_test.proofs.RowTests.{answered_all, answered_next, answered_not}
use Rattle.jcard_test.proofs.answering.rows_outcome.Goals as goal

pub loop-card-init : goal.loop-card-init
loop-card-init g c = λ outcome a. a

pub returns-in-Some : goal.returns-in-Some
returns-in-Some g c =
    c.loop-card.invariant (Failed c.in-Some.failure) (answered_not c.args.plan.now c.args.cards.now c.loop-card.card-index c.card-item.result c.loop-card-test.true
    c.card-item.is c.loop-card.passed (Failed c.in-Some.failure) c.in-Some.failure refl
    (subst (λ found. EndsOn c.args.plan.now c.card-item.result c.loop-card.passed found) c.in-Some.is c.in_ok-failure.ensures))

pub loop-card-preserved : goal.loop-card-preserved
loop-card-preserved g c = λ outcome more.
    c.loop-card.invariant outcome (answered_next c.args.plan.now c.args.cards.now c.loop-card.card-index c.card-item.result c.loop-card-test.true c.card-item.is
    c.loop-card.passed outcome (subst (λ found. EndsOn c.args.plan.now c.card-item.result c.loop-card.passed found) c.in-None.is c.in_ok-failure.ensures)
    (subst (λ n. AreAnsweredOn c.args.plan.now (drop (c.loop-card.card-index + 1) c.args.cards.now) n outcome)
    (c.saturating_add-passed.ensures ∙ ap (λ rows. min (c.loop-card.passed + length rows) 18446744073709551615) c.as_slice.ensures.value) more))

pub returns : goal.returns
returns g c = c.loop-card.invariant (Held c.loop-card.passed) (answered_all c.args.plan.now c.args.cards.now c.loop-card.card-index c.loop-card.passed (Held c.loop-card.passed)
    c.loop-card-test.false refl)
