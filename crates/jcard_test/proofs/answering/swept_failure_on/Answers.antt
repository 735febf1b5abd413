use Rattle.std.proofs.Common.{arith}
use Rattle.jcard_test.proofs.RowTests.{swept_more, swept_first}
use Rattle.jcard_test.proofs.answering.swept_failure_on.Goals as goal

pub loop-place-init : goal.loop-place-init
loop-place-init c = λ k r h at swept. absurd (omega (arith, h))

pub returns-in-Some : goal.returns-in-Some
returns-in-Some c = swept_first c.args.plan.now c.args.words c.args.rows.now c.args.passed c.loop-place.place c.index-rows-place.result c.in-Some.told.items
    c.failure_of.result c.loop-place.invariant c.loop-place-test.true c.index-rows-place.is (rw c.in-Some.is at c.in_ok-told.ensures)
    (rw c.saturating_add.ensures at c.failure_of.ensures)

pub loop-place-preserved : goal.loop-place-preserved
loop-place-preserved c = swept_more c.args.plan.now c.args.words c.args.rows.now c.loop-place.place c.index-rows-place.result c.index-rows-place.is c.loop-place-test.true
    c.loop-place.invariant (rw c.in_default.is at c.in_ok-told.ensures)

pub returns : goal.returns
returns c = λ k r h at swept. c.loop-place.invariant k r (omega (arith, h, c.loop-place-test.false)) at swept
