use Rattle.std.proofs.Common.{◌≡◌, ◌∙◌, ◌*◌, arith}
use Rattle.jc_numbers.specs.Numbers.{number_of_bytes, value}
use Rattle.jc_curves.specs.Curves.{CurveNumbers, numbers_of}
use Rattle.jc_curves.specs.Elements.{residue_of}
use Rattle.jc_curves.proofs.CallLaws.{secret_call}
use Rattle.jc_curves.proofs.Limbs.{value_single}
use Rattle.jc_curves.proofs.PointBytes.{held}
use Rattle.jc_curves.proofs.agreement.agree_by.Goals as goal

pub write_x-requires-clause-fits : goal.write_x-requires-clause-fits
write_x-requires-clause-fits c =
    rw (c.requires.to, ← c.curve.view_is) (omega (arith, held (value c.curve.inside.field) c.curve.inside.field_bits c.curve.invariant.field_counted))

pub returns : goal.returns
returns c =
    let numbers : CurveNumbers =
    numbers_of c.curve.inside.field c.curve.inside.order c.curve.inside.a c.curve.inside.b c.curve.inside.generator c.curve.inside.cofactor
    c.curve.inside.field_bits c.curve.inside.order_bits in
    let scalar : value c.multiply.new.to ≡ number_of_bytes c.args.private.now * c.args.factor =
    c.multiply.ensures ∙ (λ i. c.number_of-key.ensures.number i * value_single c.args.factor i) in
    rw (← c.curve.view_is)
    (secret_call numbers (number_of_bytes c.args.private.now) c.args.factor (residue_of c.curve.inside.field c.in-Some.point.x.limbs)
    (residue_of c.curve.inside.field c.in-Some.point.y.limbs) c.args.public.now c.write_x.new.to c.write_x.result
    (rw (c.number_of-key.ensures.number, ← c.curve.view_is) at (c.is_in_order.ensures.0 c.if-not-is_in_order.false))
    (rw (c.requires.to, ← c.curve.view_is) at c.in-Some.ensures.1)
    (rw scalar at c.write_x.ensures))
