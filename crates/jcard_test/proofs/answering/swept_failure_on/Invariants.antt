use Rattle.jcard_test.specs.Tests.{AreSweptWell}
use Rattle.jcard_test.proofs.answering.swept_failure_on.Given as goal

abbrev pub invariant-loop-place : goal.invariant-loop-place
invariant-loop-place l = AreSweptWell l.plan l.words l.rows l.place
