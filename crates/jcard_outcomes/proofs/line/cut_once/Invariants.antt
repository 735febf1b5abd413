use Rattle.std.proofs.Common.{◌≡◌, take, false}
use Rattle.jcard_outcomes.specs.Part.{has}
use Rattle.jcard_outcomes.proofs.line.cut_once.Given as goal

abbrev pub invariant-loop-place : goal.invariant-loop-place
invariant-loop-place l = has l.separator (take l.place l.text) ≡ false
