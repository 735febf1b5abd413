use Rattle.std.proofs.Common.{◌≡◌, ◌++◌, take}
use Rattle.std.specs.List.{flat_map}
use Rattle.jcard_attack.specs.Models.{first_fault, seconds_within}
use Rattle.jcard_attack.proofs.models.push_pairs.Given as goal

abbrev pub invariant-loop-model : goal.invariant-loop-model
invariant-loop-model l = l.kinds.items ≡ l.fn.kinds.items ++ flat_map (λ model. seconds_within (first_fault model) l.models l.within) (take l.model-index l.models)
