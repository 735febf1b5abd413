use Rattle.std.proofs.Common.{length}
use Rattle.jcard_attack.specs.PartLines.{AreReadTo}
use Rattle.jcard_attack.proofs.join.read.Given as goal

abbrev pub invariant-loop-line : goal.invariant-loop-line
invariant-loop-line l = AreReadTo l.text l.rest l.lines

abbrev pub decreases-loop-line : goal.decreases-loop-line
decreases-loop-line l = length l.rest
