use Rattle.std.proofs.Common.{◌≡◌, ◌≤◌, ◌++◌, ℕ, [], ◌∷◌, drop}
use Rattle.jc_linker.specs.Answers.{list_append}
use Rattle.jc_linker.specs.Linking.{targets_from}
use Rattle.jc_linker.proofs.scope.Scope.targets.Given as goal

abbrev pub invariant-loop-index : goal.invariant-loop-index
invariant-loop-index l = targets_from l.self l.number 0 l.pool ≡ list_append l.targets.items (targets_from l.self l.number l.index (drop l.index l.pool))
