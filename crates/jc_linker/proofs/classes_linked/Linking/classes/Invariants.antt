use Rattle.std.proofs.Common.{◌≡◌, ◌≤◌, ◌++◌, ℕ, [], ◌∷◌, length, drop}
use Rattle.jc_linker.specs.Linking.{classes_behind}
use Rattle.jc_linker.proofs.classes_linked.Linking.classes.Given as goal

abbrev pub invariant-loop-number : goal.invariant-loop-number
invariant-loop-number l = (classes_behind l.self.loaded.now l.self.names.now l.self.number l.done.items (drop l.number l.classes)
    ≡ classes_behind l.self.loaded.now l.self.names.now l.self.number [] l.classes) × (length l.done.items ≡ l.number)
