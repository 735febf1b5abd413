use Rattle.std.proofs.Common.{◌≡◌, ℕ, ◌<◌}
use Rattle.jc_commit.specs.Image.{address_at}
use Rattle.jcard_tear.proofs.recoveries.entries.Given as goal

abbrev pub invariant-loop-entry : goal.invariant-loop-entry
invariant-loop-entry l = (j k : ℕ) → j < k → k < l.entry → address_at l.log l.words j ≡ address_at l.log l.words k → ⊥
