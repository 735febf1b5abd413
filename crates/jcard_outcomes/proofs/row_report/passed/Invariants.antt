use Rattle.std.proofs.Common.{◌≡◌, ◌+◌, ◌≤◌, drop, min}
use Rattle.jcard_outcomes.specs.RowReport.{passed_of}
use Rattle.jcard_outcomes.proofs.row_report.passed.Given as goal

abbrev pub invariant-loop-file : goal.invariant-loop-file
invariant-loop-file l = record {
  counted : min (l.passed + passed_of (drop l.file-index l.tested)) 18446744073709551615 ≡ min (passed_of l.tested) 18446744073709551615;
  bound : l.passed ≤ 18446744073709551615;
}
