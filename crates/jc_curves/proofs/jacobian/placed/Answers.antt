use Rattle.std.proofs.Common.{refl}
use Rattle.jc_curves.proofs.Formulas.{cube_law, times_law}
use Rattle.jc_curves.proofs.jacobian.placed.Goals as goal

pub returns-clause-placed : goal.returns-clause-placed
returns-clause-placed c = record {
  finite = refl;
  x_is = times_law _ _ _ _ _ c.product-square.ensures.product c.product.ensures.product;
  y_is = times_law _ _ _ _ _ (cube_law _ _ _ _ c.product-square.ensures.product c.product-cube.ensures.product) c.product-2.ensures.product;
  z_is = refl;
}
