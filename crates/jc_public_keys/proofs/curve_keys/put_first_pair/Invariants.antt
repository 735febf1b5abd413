use Rattle.std.proofs.Common.{◌≡◌, ◌-◌, length}
use Rattle.jc_public_keys.specs.CurveKeys.{pair_at}
use Rattle.jc_public_keys.specs.RandomNumbers.{first_of, first_try, tries}
use Rattle.jc_public_keys.proofs.curve_keys.put_first_pair.Given as goal

abbrev pub invariant-numbers : goal.invariant-numbers
invariant-numbers l =
    first_try (pair_at (length l.fn.private) l.curve l.seed) ≡ first_of (pair_at (length l.fn.private) l.curve l.seed) (tries - l.t) l.t
