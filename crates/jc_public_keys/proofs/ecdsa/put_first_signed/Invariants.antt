use Rattle.std.proofs.Common.{◌≡◌, ◌-◌}
use Rattle.jc_numbers.specs.Numbers.{number_of_bytes}
use Rattle.jc_public_keys.specs.Ecdsa.{signed_at}
use Rattle.jc_public_keys.specs.RandomNumbers.{first_of, first_try, tries}
use Rattle.jc_public_keys.proofs.ecdsa.put_first_signed.Given as goal

abbrev pub invariant-numbers : goal.invariant-numbers
invariant-numbers l =
    first_try (signed_at l.curve (number_of_bytes l.private) l.digest l.seed)
    ≡ first_of (signed_at l.curve (number_of_bytes l.private) l.digest l.seed) (tries - l.t) l.t
