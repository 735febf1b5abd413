use Rattle.std.proofs.Common.{◌≡◌, ◌++◌, map, take}
use Rattle.jcard_attack.specs.Models.{second_at}
use Rattle.jcard_attack.proofs.models.push_seconds_at.Given as goal

abbrev pub invariant-loop-model : goal.invariant-loop-model
invariant-loop-model l = l.kinds.items ≡ l.fn.kinds.items ++ map (second_at l.kind l.number) (take l.model-index l.models)
