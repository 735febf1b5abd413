use Rattle.std.proofs.Common.{◌≡◌, ◌/◌, ◌==◌, length, if◌then◌else◌}
use Rattle.jc_linker.specs.declared.search.Search.TheVariants.{Found}
use Rattle.jc_linker.specs.Classes.{lineage}
use Rattle.jc_cap.specs.declared.pool.VirtualToken.TheVariants.{Public}
use Rattle.jc_linker.specs.Methods.{lookup_classes, method_in, first_decided}
use Rattle.jc_linker.proofs.scope.Scope.public_below.Given as goal

abbrev pub invariant-loop-above : goal.invariant-loop-above
invariant-loop-above l = first_decided (λ c. if c == l.class then Found l.method else method_in l.self (Public l.token) c)
    (lookup_classes (Public l.token) (l.class / 256) l.walk)
    ≡ first_decided (λ c. if c == l.class then Found l.method else method_in l.self (Public l.token) c)
    (lookup_classes (Public l.token) (l.class / 256) (lineage l.self l.fn.own))

abbrev pub decreases-loop-above : goal.decreases-loop-above
decreases-loop-above l = length l.walk
