use Rattle.jc_curves.proofs.Places.{made_infinite, ruled_out}
use Rattle.jc_curves.proofs.Sums.{doubles, zero_doubles}
use Rattle.jc_curves.proofs.jacobian.double.Goals as goal

pub returns-then-is_zero-clause-doubled : goal.returns-then-is_zero-clause-doubled
returns-then-is_zero-clause-doubled c =
    zero_doubles _ _ _ _ c.requires.a.modulus.1 c.if-point.false (c.is_zero.ensures.0 c.if-is_zero.true)
    (made_infinite c.args.field.now c.args.point.now c.made_infinite-then-is_zero.result c.made_infinite-then-is_zero.ensures)

pub returns-clause-doubled : goal.returns-clause-doubled
returns-clause-doubled c =
    doubles _ _ _ _ c.requires.a.modulus.1 c.requires.a.modulus.0 c.if-point.false
    (ruled_out c.is_zero.result c.if-is_zero.false c.is_zero.ensures.1) c.doubled.ensures.doubled
