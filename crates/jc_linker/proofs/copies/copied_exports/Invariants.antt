use Rattle.std.proofs.Common.{◌≡◌, ◌≤◌, ◌++◌, ℕ, [], ◌∷◌, take, map}
use Rattle.jc_linker.specs.Outlines.{export_of}
use Rattle.jc_linker.proofs.copies.copied_exports.Given as goal

abbrev pub invariant-loop-token : goal.invariant-loop-token
invariant-loop-token l = l.copy.items ≡ map export_of (take l.token l.exports)
