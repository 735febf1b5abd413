use Rattle.jcard_tear.proofs.CutRecoveries.{writes_of_some}
use Rattle.jcard_tear.proofs.recoveries.recovery_writes.Goals as goal

pub returns-in-Some-clause-writes : goal.returns-in-Some-clause-writes
returns-in-Some-clause-writes c = writes_of_some c.args.words.now c.in-Some.count c.in-Some.ensures.count c.in-Some.count-test.1
