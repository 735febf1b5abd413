use Rattle.std.proofs.Common.{arith}
use Rattle.jc_numbers.specs.Numbers.{number_of_bytes, value}
use Rattle.jc_curves.specs.Curves.{CurveNumbers, numbers_of}
use Rattle.jc_curves.specs.Elements.{residue_of}
use Rattle.jc_curves.proofs.CallLaws.{multiple_call}
use Rattle.jc_curves.proofs.PointBytes.{held}
use Rattle.jc_curves.proofs.points.multiple.Goals as goal

pub write_multiple-requires-clause-fits : goal.write_multiple-requires-clause-fits
write_multiple-requires-clause-fits c =
    rw (c.field_length-size.ensures.length, ← c.curve.view_is) (omega (arith, held (value c.curve.inside.field) c.curve.inside.field_bits c.curve.invariant.field_counted))

pub returns : goal.returns
returns c =
    let numbers : CurveNumbers =
    numbers_of c.curve.inside.field c.curve.inside.order c.curve.inside.a c.curve.inside.b c.curve.inside.generator c.curve.inside.cofactor
    c.curve.inside.field_bits c.curve.inside.order_bits in
    rw (← c.curve.view_is)
    (multiple_call numbers (number_of_bytes c.args.scalar.now) (residue_of c.curve.inside.field c.in-Some.point.x.limbs)
    (residue_of c.curve.inside.field c.in-Some.point.y.limbs) c.args.point.now c.write_multiple.new.to c.write_multiple.result
    (rw (c.field_length-size.ensures.length, ← c.curve.view_is) at c.in-Some.ensures.1)
    (rw (c.number_of.ensures.number, c.field_length-size.ensures.length, ← c.curve.view_is) at c.write_multiple.ensures))
