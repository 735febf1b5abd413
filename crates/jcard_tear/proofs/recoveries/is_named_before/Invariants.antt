use Rattle.std.proofs.Common.{◌≡◌, ℕ, ◌<◌}
use Rattle.jc_commit.specs.Image.{address_at}
use Rattle.jcard_tear.proofs.recoveries.is_named_before.Given as goal

abbrev pub invariant-loop-earlier : goal.invariant-loop-earlier
invariant-loop-earlier l = (j : ℕ) → j < l.earlier → address_at l.log l.words j ≡ address_at l.log l.words l.entry → ⊥
