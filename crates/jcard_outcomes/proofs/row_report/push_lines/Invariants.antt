use Rattle.std.proofs.Common.{◌≡◌, ◌++◌, drop}
use Rattle.jcard_outcomes.specs.RowReport.{lines_text}
use Rattle.jcard_outcomes.proofs.row_report.push_lines.Given as goal

abbrev pub invariant-loop-file : goal.invariant-loop-file
invariant-loop-file l = l.text.items ++ lines_text (drop l.file-index l.tested) ≡ l.fn.text.items ++ lines_text l.tested
