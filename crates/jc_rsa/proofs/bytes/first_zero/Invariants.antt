use Rattle.std.proofs.Common.{◌≤◌, ◌<◌, ℕ, slice_index}
use Rattle.jc_rsa.specs.Bytes.{IsZero}
use Rattle.jc_rsa.proofs.bytes.first_zero.Given as goal

abbrev pub invariant-places : goal.invariant-places
invariant-places l = (k : ℕ) → l.start ≤ k → k < l.i → ¬ (IsZero (slice_index l.bytes k))
