use Rattle.std.proofs.Common.{ℕ, ◌≡◌, ◌<◌, false}
use Rattle.jc_memory.specs.Marks.{is_marked}
use Rattle.jc_memory.proofs.marks.unmark.Given as goal

abbrev pub invariant-loop-place : goal.invariant-loop-place
invariant-loop-place l = (r : ℕ) → r < l.place → is_marked l.marks r ≡ false
