use Rattle.std.proofs.Common.{List, ℕ, map}
use Rattle.std.specs.Borrow.{Bor}
use Rattle.jcard_outcomes.proofs.Orders.{IsOrderedTo}
use Rattle.jcard_outcomes.proofs.order.in_order.Given as goal

abbrev pub invariant-loop-number : goal.invariant-loop-number
invariant-loop-number l = IsOrderedTo l.label (map (λ (t : Bor (List ℕ)). t.now) l.texts) (map (λ (t : Bor (List ℕ)). t.now) l.ordered.items) l.number
