use Rattle.std.proofs.Common.{inl}
use Rattle.jcard_test.proofs.RowTests.{ended_by}
use Rattle.jcard_test.proofs.answering.first_failure_on.Goals as goal

pub returns-in-Some : goal.returns-in-Some
returns-in-Some g c =
    let e = rw c.in-Some.is at c.in_ok-failure.ensures in
    (e.0, e.1, inl e.2)

pub returns-in-None : goal.returns-in-None
returns-in-None g c = ended_by c.args.plan.now c.args.card.now c.args.passed c.swept_failure_on.result (rw c.in-None.is at c.in_ok-failure.ensures)
    (rw c.deref.ensures.value at c.swept_failure_on.ensures)
