use Rattle.std.proofs.Common.{◌≡◌, ℕ, ◌<◌, ◌≤◌, false}
use Rattle.jcard_outcomes.specs.Heaps.{differ_at}
use Rattle.jcard_outcomes.proofs.heaps.difference_in_block.Given as goal

abbrev pub invariant-loop-address : goal.invariant-loop-address
invariant-loop-address l = (i : ℕ) → l.from ≤ i → i < l.address-counter → differ_at l.spared l.a l.b i ≡ false
