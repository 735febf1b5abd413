use Rattle.std.proofs.Common.{◌≡◌, ◌≤◌, ◌<◌, List, ℕ, [], ◌++◌, map}
use Rattle.std.specs.Borrow.{Bor}
use Rattle.std.specs.List.{slice_index_or}
use Rattle.jcard_outcomes.proofs.order.first_with.Given as goal

abbrev pub invariant-loop-place : goal.invariant-loop-place
invariant-loop-place l = (j : ℕ) (rest : List ℕ) → l.from ≤ j → j < l.place
    → slice_index_or (map (λ (t : Bor (List ℕ)). t.now) l.texts) j [] ≡ l.start ++ rest → ⊥
