use Rattle.std.proofs.Common.{◌≡◌, drop}
use Rattle.jcard_outcomes.specs.Report.{broken_by_calls}
use Rattle.jcard_outcomes.proofs.verdict.is_broken_by_calls.Given as goal

abbrev pub invariant-loop-cut : goal.invariant-loop-cut
invariant-loop-cut l = broken_by_calls (drop l.cut-index l.cuts) ≡ broken_by_calls l.cuts
