use Rattle.std.proofs.Common.{◌≡◌, ◌∙◌, ◌<◌, ◌+◌, ◌*◌, ◌%◌, ℕ, sym, arith}
use Rattle.jc_numbers.specs.Numbers.{value}
use Rattle.jc_curves.specs.Elements.{residue_of}
use Rattle.jc_curves.proofs.CurveLaws.{cubic_law, same_difference, zero_difference}
use Rattle.jc_curves.proofs.ElementLaws.{residue_below}
use Rattle.jc_curves.proofs.encodings.is_on_curve.Goals as goal

pub returns : goal.returns
returns c =
    let field = c.args.field.now in
    let p : ℕ = value field in
    let x : ℕ = residue_of field c.args.point.now.x.limbs in
    let cubic : residue_of field c.sum-cubic.result.limbs % p
    ≡ (x * x * x + residue_of field c.args.a.now.limbs * x + residue_of field c.args.b.now.limbs) % p =
    cubic_law _ _ _ _ _ _ _ _ c.product-square.ensures.product c.sum.ensures.sum c.product.ensures.product c.sum-cubic.ensures.sum in
    let some : 0 < p = omega (arith, c.requires.a.modulus.1) in (
      λ zero. record {
        x_below = residue_below field c.args.point.now.x.limbs some;
        y_below = residue_below field c.args.point.now.y.limbs some;
        equation = sym c.product-2.ensures.product ∙ zero_difference _ _ _ _ c.difference.ensures.difference (c.is_zero.ensures.0 zero) ∙ cubic;
      },
      λ on. c.is_zero.ensures.1 (same_difference _ _ _ _ c.difference.ensures.difference (c.product-2.ensures.product ∙ on.equation ∙ sym cubic)),
    )
