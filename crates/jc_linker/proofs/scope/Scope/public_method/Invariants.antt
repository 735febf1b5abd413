use Rattle.std.proofs.Common.{◌≡◌, ℕ, length}
use Rattle.jc_linker.specs.Classes.{lineage}
use Rattle.jc_cap.specs.declared.pool.VirtualToken.TheVariants.{Public}
use Rattle.jc_linker.specs.Methods.{method_in, first_decided}
use Rattle.jc_linker.proofs.scope.Scope.public_method.Given as goal

abbrev pub invariant-loop-above : goal.invariant-loop-above
invariant-loop-above l = first_decided (method_in l.self (Public l.token)) l.walk
    ≡ first_decided (method_in l.self (Public l.token)) (lineage l.self l.fn.class)

abbrev pub decreases-loop-above : goal.decreases-loop-above
decreases-loop-above l = length l.walk
