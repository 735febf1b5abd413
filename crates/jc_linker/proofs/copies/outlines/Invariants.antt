use Rattle.std.proofs.Common.{◌≡◌, ◌≤◌, ◌++◌, ℕ, [], ◌∷◌, length, take, map}
use Rattle.jc_cap.specs.ClassValues.{offsets_of}
use Rattle.jc_linker.specs.Outlines.{outline_of}
use Rattle.jc_linker.proofs.copies.outlines.Given as goal

abbrev pub invariant-loop-number : goal.invariant-loop-number
invariant-loop-number l = (l.copy.items ≡ map outline_of (take l.number (offsets_of l.classes))) × (length l.copy.items ≡ l.number)
