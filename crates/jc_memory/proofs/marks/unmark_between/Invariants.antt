-- The marks from the first address on and below the index are taken away.
use Rattle.std.proofs.Common.{ℕ, ◌≡◌, ◌<◌, ◌≤◌, true}
use Rattle.std.specs.Prelude.{◌⊎◌}
use Rattle.jc_memory.specs.Marks.{is_marked}
use Rattle.jc_memory.proofs.marks.unmark_between.Given as goal

abbrev pub invariant-loop-place : goal.invariant-loop-place
invariant-loop-place l = (r : ℕ) → is_marked l.marks r ≡ true → (is_marked l.fn.marks r ≡ true) × ((r < l.from) ⊎ (l.place ≤ r))
