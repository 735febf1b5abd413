use Rattle.std.proofs.Common.{◌≡◌, drop}
use Rattle.jcard_arguments.specs.Attacks.{are_upper_digits}
use Rattle.jcard_arguments.proofs.attacks.are_upper_digits.Given as goal

abbrev pub invariant-loop-byte : goal.invariant-loop-byte
invariant-loop-byte l = are_upper_digits (drop l.byte-index l.text) ≡ are_upper_digits l.text
