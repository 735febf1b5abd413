use Rattle.std.proofs.Common.{◌≡◌, ◌≤◌, ◌++◌, ℕ, [], ◌∷◌, drop}
use Rattle.std.proofs.Common.{◌+◌, ◌*◌}
use Rattle.jc_linker.specs.Completeness.{are_complete, are_complete_from}
use Rattle.jc_linker.proofs.scope.Scope.are_complete.Given as goal

abbrev pub invariant-loop-place : goal.invariant-loop-place
invariant-loop-place l = are_complete l.self l.number l.classes ≡ are_complete_from l.self l.number (256 * l.number + l.place) (drop l.place l.classes)
