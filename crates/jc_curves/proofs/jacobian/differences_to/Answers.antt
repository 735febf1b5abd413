use Rattle.jc_curves.proofs.Formulas.{cube_law, difference_by}
use Rattle.jc_curves.proofs.jacobian.differences_to.Goals as goal

pub returns-clause-differences : goal.returns-clause-differences
returns-clause-differences c = record {
  of_x = difference_by _ _ _ _ _ _ _ c.product-square.ensures.product c.product-other_x.ensures.product c.difference.ensures.difference;
  of_y = difference_by _ _ _ _ _ _ _ (cube_law _ _ _ _ c.product-square.ensures.product c.product-cube.ensures.product)
      c.product-other_y.ensures.product c.difference-2.ensures.difference;
}
