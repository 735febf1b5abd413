use Rattle.std.proofs.Common.{arith}
use Rattle.jc_numbers.specs.Numbers.{number_of_bytes, value}
use Rattle.jc_curves.specs.Curves.{CurveNumbers, numbers_of}
use Rattle.jc_curves.proofs.CallLaws.{key_call}
use Rattle.jc_curves.proofs.PointBytes.{held}
use Rattle.jc_curves.proofs.points.public_point.Goals as goal

pub write_multiple-requires-clause-fits : goal.write_multiple-requires-clause-fits
write_multiple-requires-clause-fits c =
    rw (c.field_length-size.ensures.length, ← c.curve.view_is) (omega (arith, held (value c.curve.inside.field) c.curve.inside.field_bits c.curve.invariant.field_counted))

pub returns : goal.returns
returns c =
    let numbers : CurveNumbers =
    numbers_of c.curve.inside.field c.curve.inside.order c.curve.inside.a c.curve.inside.b c.curve.inside.generator c.curve.inside.cofactor
    c.curve.inside.field_bits c.curve.inside.order_bits in
    rw (← c.curve.view_is)
    (key_call numbers (number_of_bytes c.args.private.now) c.write_multiple.new.to c.write_multiple.result
    (rw (c.number_of-key.ensures.number, ← c.curve.view_is) at (c.is_in_order.ensures.0 c.if-not-is_in_order.false))
    (rw (c.number_of-key.ensures.number, c.field_length-size.ensures.length, ← c.curve.view_is) at c.write_multiple.ensures))
