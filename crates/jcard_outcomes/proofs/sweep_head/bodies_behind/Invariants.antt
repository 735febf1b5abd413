use Rattle.std.proofs.Common.{◌≡◌, List, ℕ, map}
use Rattle.std.specs.Borrow.{Bor}
use Rattle.jcard_outcomes.proofs.PartHeads.{AreBehindTo}
use Rattle.jcard_outcomes.proofs.sweep_head.bodies_behind.Given as goal

abbrev pub invariant-loop-place : goal.invariant-loop-place
invariant-loop-place l = AreBehindTo l.name (map (λ t. t.items) l.texts) (map (λ (t : Bor (List ℕ)). t.now) l.bodies.items) l.place
