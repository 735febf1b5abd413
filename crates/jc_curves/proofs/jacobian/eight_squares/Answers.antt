use Rattle.jc_curves.proofs.Formulas.{eight_law}
use Rattle.jc_curves.proofs.jacobian.eight_squares.Goals as goal

pub returns-clause-eight : goal.returns-clause-eight
returns-clause-eight c =
    eight_law _ _ _ _ _ _ c.product-fourth.ensures.product c.twice-double.ensures.twice c.twice-quadruple.ensures.twice c.twice.ensures.twice
