use Rattle.std.proofs.Common.{◌≡◌, ◌++◌, ◌≤◌, drop}
use Rattle.jcard_outcomes.specs.Report.{rows_from}
use Rattle.jcard_outcomes.proofs.rows.push_rows_from.Given as goal

abbrev pub invariant-loop-cut : goal.invariant-loop-cut
invariant-loop-cut l = record {
  rows : l.text.items ++ rows_from l.first l.last l.outcome.items (drop l.cut-index l.more) ≡ l.fn.text.items ++ rows_from 0 0 l.fn.outcome.items l.more;
  bound : l.last ≤ l.cut-index;
}
