use Rattle.std.proofs.Common.{◌≡◌, ◌≤◌, ◌++◌, ℕ, [], ◌∷◌, drop}
use Rattle.std.proofs.Common.{◌+◌}
use Rattle.jc_linker.specs.Completeness.{inherits_from}
use Rattle.jc_linker.proofs.scope.Scope.inherits.Given as goal

abbrev pub invariant-loop-place : goal.invariant-loop-place
invariant-loop-place l = inherits_from l.self l.number l.superclass l.base l.offsets
    ≡ inherits_from l.self l.number l.superclass (l.base + l.place) (drop l.place l.offsets)
