use Rattle.std.proofs.Common.{codes}
use Rattle.jcard_outcomes.proofs.RecoveryReports.{alike_only}
use Rattle.jcard_outcomes.proofs.Splits.{same}
use Rattle.jcard_outcomes.proofs.line.recoveries_of.Goals as goal

pub returns-then-is_same : goal.returns-then-is_same
returns-then-is_same c = alike_only c.args.difference.now c.args.ways c.alike_in.result
    (same c.args.difference.now (codes "alike") c.is_same.result c.is_same.ensures c.if-is_same.true) c.alike_in.ensures
