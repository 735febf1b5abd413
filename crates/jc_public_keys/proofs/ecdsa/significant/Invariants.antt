use Rattle.std.proofs.Common.{◌≡◌, drop}
use Rattle.jc_numbers.specs.Numbers.{number_of_bytes}
use Rattle.jc_public_keys.proofs.ecdsa.significant.Given as goal

abbrev pub invariant-zeros : goal.invariant-zeros
invariant-zeros l = number_of_bytes (drop l.i l.bytes) ≡ number_of_bytes l.bytes
