use Rattle.std.proofs.Common.{take}
use Rattle.jcard_outcomes.specs.Comparison.{AreAnswered}
use Rattle.jcard_outcomes.proofs.comparison.first_unlike.Given as goal

abbrev pub invariant-loop-place : goal.invariant-loop-place
invariant-loop-place l = AreAnswered (take l.place l.rows) l.text l.rest
