use Rattle.std.proofs.Common.{◌<◌, arith}
use Rattle.jc_numbers.specs.Numbers.{value}
use Rattle.jc_curves.specs.Elements.{residue_of}
use Rattle.jc_curves.proofs.ElementLaws.{residue_below}
use Rattle.jc_curves.proofs.Formulas.{cube_law, times_law}
use Rattle.jc_curves.proofs.Standing.{affine_at}
use Rattle.jc_curves.proofs.multiples.affine.Goals as goal

pub returns-clause-point : goal.returns-clause-point
returns-clause-point c =
    let field = c.args.field.now in
    let some : 0 < value field = omega (arith, c.requires.x.modulus.1) in
    affine_at _ _ (residue_of field c.in-Some.inverse.limbs) _ _ c.requires.x.modulus.1 c.if-point.false c.in-Some.ensures.1
    (residue_below field c.product.result.limbs some) (residue_below field c.product-2.result.limbs some)
    (times_law _ _ _ _ _ c.product-square.ensures.product c.product.ensures.product)
    (times_law _ _ _ _ _ (cube_law _ _ _ _ c.product-square.ensures.product c.product-cube.ensures.product) c.product-2.ensures.product)
