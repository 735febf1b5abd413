use Rattle.std.proofs.Common.{◌∙◌, sym, arith}
use Rattle.jc_numbers.specs.Numbers.{value}
use Rattle.jc_curves.specs.Curves.{CurveNumbers, numbers_of}
use Rattle.jc_curves.proofs.SignatureLaws.{no_s}
use Rattle.jc_curves.proofs.signatures.signature_by.Goals as goal

pub returns-in_default : goal.returns-in_default
returns-in_default c =
    λ r s signed. absurd (omega (arith, signed.r_is, c.in_default.ensures signed.x signed.y signed.point, signed.r_some))

pub returns-then-is_zero : goal.returns-then-is_zero
returns-then-is_zero c =
    let numbers : CurveNumbers =
    numbers_of c.curve.inside.field c.curve.inside.order c.curve.inside.a c.curve.inside.b c.curve.inside.generator c.curve.inside.cofactor
    c.curve.inside.field_bits c.curve.inside.order_bits in
    let point = rw (← c.curve.view_is) at c.in-Some.ensures in
    let s = c.in-Some-proof_number.ensures in
    rw (← c.curve.view_is)
    (no_s numbers (value c.args.key.now.limbs) (value c.args.e.now.limbs) (value c.args.k.now.limbs) (value c.in-Some.r.limbs) point.1 point.2 s.0
    c.curve.invariant.order_is.1 point.3 point.4 s.1 (sym s.2 ∙ c.is_zero.ensures.0 c.if-is_zero.true))
