use Rattle.std.proofs.Common.{◌≡◌, ◌+◌, ◌≤◌, drop}
use Rattle.jcard_outcomes.specs.Report.{count_before}
use Rattle.jcard_outcomes.proofs.verdict.count_before.Given as goal

abbrev pub invariant-loop-cut : goal.invariant-loop-cut
invariant-loop-cut l = record { counted : l.count + count_before (drop l.cut-index l.cuts) ≡ count_before l.cuts; bound : l.count ≤ l.cut-index }
