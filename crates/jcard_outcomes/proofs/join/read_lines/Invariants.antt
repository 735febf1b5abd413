use Rattle.std.proofs.Common.{List, ℕ, map}
use Rattle.std.specs.Borrow.{Bor}
use Rattle.jcard_outcomes.proofs.LineOrder.{Reading}
use Rattle.jcard_outcomes.proofs.join.read_lines.Given as goal

abbrev pub invariant-loop-number : goal.invariant-loop-number
invariant-loop-number l = Reading (map (λ (t : Bor (List ℕ)). t.now) l.fn.rests.items) (map (λ (t : Bor (List ℕ)). t.now) l.lines.items)
    (map (λ (t : Bor (List ℕ)). t.now) l.rests.items) l.number
