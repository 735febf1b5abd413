use Rattle.std.proofs.Common.{◌≡◌, ◌≤◌, ◌++◌, ℕ, [], ◌∷◌, take, map}
use Rattle.jc_linker.specs.Linking.{superinterface_of}
use Rattle.jc_linker.proofs.classes_linked.Linking.superinterfaces.Given as goal

abbrev pub invariant-loop-place : goal.invariant-loop-place
invariant-loop-place l = l.made.items ≡ map (superinterface_of l.self.names.now l.self.number) (take l.place l.list)
