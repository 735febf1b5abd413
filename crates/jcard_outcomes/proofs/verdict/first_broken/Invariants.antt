use Rattle.std.proofs.Common.{◌≡◌, drop}
use Rattle.jcard_outcomes.specs.Report.{first_broken}
use Rattle.jcard_outcomes.proofs.verdict.first_broken.Given as goal

abbrev pub invariant-loop-number : goal.invariant-loop-number
invariant-loop-number l = first_broken l.number (drop l.number l.cuts) ≡ first_broken 0 l.cuts
