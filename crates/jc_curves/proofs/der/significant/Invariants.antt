use Rattle.std.proofs.Common.{◌≡◌, drop}
use Rattle.jc_numbers.specs.Numbers.{number_of_bytes}
use Rattle.jc_curves.proofs.der.significant.Given as goal

abbrev pub invariant-zeros : goal.invariant-zeros
invariant-zeros l = number_of_bytes (drop l.i l.bytes) ≡ number_of_bytes l.bytes
