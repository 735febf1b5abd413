use Rattle.std.proofs.Common.{◌≡◌, drop}
use Rattle.jcard_outcomes.specs.Report.{any_but_tries}
use Rattle.jcard_outcomes.proofs.verdict.any_but_tries.Given as goal

abbrev pub invariant-loop-cut : goal.invariant-loop-cut
invariant-loop-cut l = any_but_tries (drop l.cut-index l.cuts) ≡ any_but_tries l.cuts
