use Rattle.std.proofs.Common.{◌≡◌, ◌≤◌, List, ℕ, map, replicate, take}
use Rattle.std.specs.Borrow.{Bor}
use Rattle.jcard_attack.proofs.join.end_of.Given as goal

abbrev pub invariant-loop-place : goal.invariant-loop-place
invariant-loop-place l = record {
  same : take l.place (map (λ (t : Bor (List ℕ)). t.now) l.ends) ≡ replicate l.place l.undisturbed;
  within : l.place ≤ l.parts;
}
