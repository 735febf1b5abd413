use Rattle.std.proofs.Common.{◌≡◌, ◌++◌}
use Rattle.jcard_attack.specs.Models.{seconds_within}
use Rattle.jcard_attack.proofs.models.push_seconds.Given as goal

abbrev pub invariant-loop-before : goal.invariant-loop-before
invariant-loop-before l = l.kinds.items ≡ l.fn.kinds.items ++ seconds_within l.kind l.models l.before
