use Rattle.std.proofs.Common.{◌≡◌, length}
use Rattle.jc_linker.specs.Classes.{lineage}
use Rattle.jc_cap.specs.declared.pool.VirtualToken.TheVariants.{Public}
use Rattle.jc_linker.specs.Methods.{leads_to}
use Rattle.jc_linker.proofs.scope.Scope.inherits_method.Given as goal

abbrev pub invariant-loop-next : goal.invariant-loop-next
invariant-loop-next l = leads_to l.self (Public l.token) l.class l.walk ≡ leads_to l.self (Public l.token) l.class (lineage l.self l.fn.own)

abbrev pub decreases-loop-next : goal.decreases-loop-next
decreases-loop-next l = length l.walk
