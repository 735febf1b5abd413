use Rattle.std.proofs.Common.{◌≤◌, ◌<◌, ℕ, slice_index}
use Rattle.jc_rsa.specs.Bytes.{IsOther}
use Rattle.jc_rsa.proofs.bytes.first_other.Given as goal

abbrev pub invariant-places : goal.invariant-places
invariant-places l = (k : ℕ) → l.start ≤ k → k < l.i → ¬ (IsOther l.byte (slice_index l.bytes k))
