use Rattle.std.proofs.Common.{◌≡◌, ◌++◌, drop}
use Rattle.jcard_outcomes.specs.Junit.{rows_cases}
use Rattle.jcard_outcomes.proofs.junit.push_rows.Given as goal

abbrev pub invariant-loop-k : goal.invariant-loop-k
invariant-loop-k l = l.text.items ++ rows_cases l.file l.first l.k (drop l.k l.rows) ≡ l.fn.text.items ++ rows_cases l.file l.first 0 l.rows
