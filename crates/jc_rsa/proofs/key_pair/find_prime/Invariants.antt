use Rattle.std.proofs.Common.{◌≡◌, ◌≤◌, ◌<◌, ℕ, length}
use Rattle.jc_numbers.specs.Numbers.{number_of_bytes}
use Rattle.jc_rsa.specs.KeyPair.{IsTakenCandidate}
use Rattle.jc_rsa.proofs.key_pair.find_prime.Given as goal

abbrev pub invariant-candidates : goal.invariant-candidates
invariant-candidates l = record {
  long : length l.to ≡ length l.fn.to;
  others : (k : ℕ) → l.start ≤ k → k < l.i → IsTakenCandidate l.seed (number_of_bytes l.exponent) (length l.fn.to) k → ⊥;
}
