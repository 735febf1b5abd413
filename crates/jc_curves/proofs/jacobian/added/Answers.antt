use Rattle.std.proofs.Common.{refl}
use Rattle.jc_curves.proofs.Formulas.{added_x, added_y}
use Rattle.jc_curves.proofs.jacobian.added.Goals as goal

pub returns-clause-added : goal.returns-clause-added
returns-clause-added c = record {
  finite = refl;
  x = added_x _ _ _ _ _ _ _ _ _ _ _ c.product-square.ensures.product c.product-cube.ensures.product c.product-start_x.ensures.product
      c.twice-double.ensures.twice c.sum-ends.ensures.sum c.product-slope_square.ensures.product c.difference-x.ensures.difference;
  y = added_y _ _ _ _ _ _ _ _ _ _ _ c.product-square.ensures.product c.product-cube.ensures.product c.product-start_x.ensures.product
      c.product-start_y.ensures.product c.on_line.ensures.y;
  z = c.product.ensures.product;
}
