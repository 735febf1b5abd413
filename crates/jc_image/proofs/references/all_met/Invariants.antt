use Rattle.std.proofs.Common.{◌≡◌, ◌<◌, ℕ, true, false, get_or}
use Rattle.jc_image.proofs.references.all_met.Given as goal

abbrev pub invariant-loop-r : goal.invariant-loop-r
invariant-loop-r l = (q : ℕ) → 0 < q → q < l.r → get_or l.named q false ≡ true → get_or l.marks q false ≡ true
