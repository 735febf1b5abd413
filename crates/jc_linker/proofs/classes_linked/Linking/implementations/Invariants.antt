use Rattle.std.proofs.Common.{◌≡◌, ◌≤◌, ◌++◌, ℕ, [], ◌∷◌, length, map}
use Rattle.jc_linker.specs.Linking.{implementation_of}
use Rattle.jc_linker.proofs.classes_linked.Linking.implementations.Given as goal

abbrev pub invariant-loop-info : goal.invariant-loop-info
invariant-loop-info l = map (implementation_of l.self.names.now l.self.number) l.fn.list ≡ l.made.items
    ++ map (implementation_of l.self.names.now l.self.number) l.rest

abbrev pub decreases-loop-info : goal.decreases-loop-info
decreases-loop-info l = length l.rest
