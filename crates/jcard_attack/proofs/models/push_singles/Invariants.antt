use Rattle.std.proofs.Common.{◌≡◌, ◌++◌, map, take}
use Rattle.jcard_attack.specs.Models.{first_fault}
use Rattle.jcard_attack.proofs.models.push_singles.Given as goal

abbrev pub invariant-loop-model : goal.invariant-loop-model
invariant-loop-model l = l.kinds.items ≡ l.fn.kinds.items ++ map first_fault (take l.model-index l.models)
