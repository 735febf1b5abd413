use Rattle.std.proofs.Common.{drop}
use Rattle.jcard_test.specs.Tests.{AreAnsweredOn}
use Rattle.jcard_outcomes.specs.declared.tested.Outcome.{Outcome}
use Rattle.jcard_test.proofs.answering.rows_outcome.Given as goal

abbrev pub invariant-loop-card : goal.invariant-loop-card
invariant-loop-card g l = (outcome : Outcome) → AreAnsweredOn l.plan (drop l.card-index l.cards) l.passed outcome → AreAnsweredOn l.plan l.cards 0 outcome
