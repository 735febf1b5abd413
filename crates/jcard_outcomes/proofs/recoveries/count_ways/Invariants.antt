use Rattle.std.proofs.Common.{◌≡◌, drop}
use Rattle.jcard_outcomes.specs.Recoveries.{ways_from}
use Rattle.jcard_outcomes.proofs.recoveries.count_ways.Given as goal

abbrev pub invariant-loop-cut : goal.invariant-loop-cut
invariant-loop-cut l = ways_from l.ways (drop l.cut-index l.cuts) ≡ ways_from 0 l.cuts
