use Rattle.std.proofs.Common.{◌≡◌, ◌≤◌, List, ℕ, map, take, length}
use Rattle.std.specs.Borrow.{Bor}
use Rattle.std.specs.List.{All}
use Rattle.jcard_outcomes.specs.Join.{AreTold}
use Rattle.jcard_outcomes.specs.Part.{IsReadCut, told_cut}
use Rattle.jcard_outcomes.specs.declared.standing.Cut.{Cut}
use Rattle.jcard_outcomes.proofs.join.push_cuts.Given as goal

abbrev pub invariant-loop-number : goal.invariant-loop-number
invariant-loop-number l = record {
  told : take l.number (map (λ (t : Bor (List ℕ)). t.now) l.lines) ≡ map told_cut l.cuts.items;
  lacking : All IsReadCut l.cuts.items;
  behind : (cuts : List Cut) (uncut : List ℕ) (parts : ℕ) → AreTold cuts uncut parts (map (λ (t : Bor (List ℕ)). t.now) l.lines) → l.number ≤ length cuts;
}
