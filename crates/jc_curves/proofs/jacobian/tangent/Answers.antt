use Rattle.jc_curves.proofs.Formulas.{tangent_law}
use Rattle.jc_curves.proofs.jacobian.tangent.Goals as goal

pub returns-clause-slope : goal.returns-clause-slope
returns-clause-slope c =
    tangent_law _ _ _ _ _ _ _ _ _ _ _ c.product-square.ensures.product c.twice-double.ensures.twice c.sum-three.ensures.sum
    c.product-z_square.ensures.product c.product-z_fourth.ensures.product c.product-last.ensures.product c.sum.ensures.sum
