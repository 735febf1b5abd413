use Rattle.std.proofs.Common.{◌≡◌, drop}
use Rattle.jcard_outcomes.specs.Report.{most_lost_from}
use Rattle.jcard_outcomes.proofs.verdict.most_lost.Given as goal

abbrev pub invariant-loop-cut : goal.invariant-loop-cut
invariant-loop-cut l = most_lost_from l.most (drop l.cut-index l.cuts) ≡ most_lost_from 0 l.cuts
