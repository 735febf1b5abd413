use Rattle.std.proofs.Common.{◌≡◌, drop}
use Rattle.jcard_outcomes.specs.Recoveries.{first_difference}
use Rattle.jcard_outcomes.proofs.recoveries.first_difference.Given as goal

abbrev pub invariant-loop-number : goal.invariant-loop-number
invariant-loop-number l = first_difference l.number (drop l.number l.cuts) ≡ first_difference 0 l.cuts
