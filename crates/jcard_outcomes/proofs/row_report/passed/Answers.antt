use Rattle.std.proofs.Common.{arith}
use Rattle.jcard_outcomes.proofs.RowReports.{passed_end, passed_more}
use Rattle.jcard_outcomes.proofs.row_report.passed.Goals as goal

pub loop-file-preserved : goal.loop-file-preserved
loop-file-preserved c =
    let more = passed_more c.args.tested.now c.loop-file.file-index c.file-item.result c.loop-file-test.true c.file-item.is in record {
      counted = omega (arith, more, c.loop-file.invariant.counted, c.passed_in.ensures, c.saturating_add-passed.ensures);
      bound = omega (arith, c.saturating_add-passed.ensures);
    }

pub returns : goal.returns
returns c = omega (arith, passed_end c.args.tested.now c.loop-file.file-index c.loop-file-test.false, c.loop-file.invariant.counted, c.loop-file.invariant.bound)
