use Rattle.std.proofs.Common.{◌≡◌, ◌≤◌, ◌++◌, ℕ, [], ◌∷◌, take, map}
use Rattle.jc_linker.specs.Outlines.{applet_of}
use Rattle.jc_linker.proofs.copies.copied_applets.Given as goal

abbrev pub invariant-loop-entry : goal.invariant-loop-entry
invariant-loop-entry l = l.copy.items ≡ map applet_of (take l.entry l.applets)
