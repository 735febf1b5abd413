use Rattle.std.proofs.Common.{◌≡◌, ℕ, ◌<◌, ◌≤◌, ◌-◌, false}
use Rattle.jcard_outcomes.specs.Heaps.{differ_at}
use Rattle.jcard_outcomes.proofs.heaps.first_difference.Given as goal

abbrev pub invariant-loop-from : goal.invariant-loop-from
invariant-loop-from l = record {
  begun : l.first ≤ l.from;
  agree : (i : ℕ) → l.first ≤ i → i < l.from → differ_at l.spared l.a l.b i ≡ false;
}

abbrev pub decreases-loop-from : goal.decreases-loop-from
decreases-loop-from l = l.end - l.from
