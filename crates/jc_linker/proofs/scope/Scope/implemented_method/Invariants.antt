use Rattle.std.proofs.Common.{◌≡◌, ℕ, length}
use Rattle.jc_linker.specs.Classes.{lineage}
use Rattle.jc_linker.specs.Methods.{implementation_in, first_decided}
use Rattle.jc_linker.proofs.scope.Scope.implemented_method.Given as goal

abbrev pub invariant-loop-above : goal.invariant-loop-above
invariant-loop-above l = first_decided (implementation_in l.self l.interface l.token) l.walk
    ≡ first_decided (implementation_in l.self l.interface l.token) (lineage l.self l.fn.class)

abbrev pub decreases-loop-above : goal.decreases-loop-above
decreases-loop-above l = length l.walk
