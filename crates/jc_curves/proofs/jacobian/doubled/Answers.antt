use Rattle.std.proofs.Common.{refl}
use Rattle.jc_curves.specs.Elements.{residue_of}
use Rattle.jc_curves.proofs.Formulas.{doubled_x, doubled_y, doubled_z}
use Rattle.jc_curves.proofs.jacobian.doubled.Goals as goal

pub returns-clause-doubled : goal.returns-clause-doubled
returns-clause-doubled c = record {
  finite = refl;
  slope = residue_of c.args.field.now c.tangent-slope.result.limbs;
  is_slope = c.tangent-slope.ensures.slope;
  x = doubled_x _ _ _ _ _ _ _ _ _ c.product-square.ensures.product c.middle_of-middle.ensures.middle c.twice-both.ensures.twice
      c.product-slope_square.ensures.product c.difference-x.ensures.difference;
  y = doubled_y _ _ _ _ _ _ _ _ _ c.product-square.ensures.product c.middle_of-middle.ensures.middle c.eight_squares-last.ensures.eight
      c.on_line.ensures.y;
  z = doubled_z _ _ _ _ _ c.product-along.ensures.product c.twice.ensures.twice;
}
