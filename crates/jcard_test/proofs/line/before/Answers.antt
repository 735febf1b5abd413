use Rattle.std.proofs.Common.{Some}
use Rattle.jcard_test.proofs.line.before.Goals as goal

pub returns-in-Some : goal.returns-in-Some
returns-in-Some c = (Some c.in-Some.field-0-1.now, c.in-Some.ensures.cases)
