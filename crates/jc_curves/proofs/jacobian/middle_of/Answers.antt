use Rattle.jc_curves.proofs.Formulas.{middle_law}
use Rattle.jc_curves.proofs.jacobian.middle_of.Goals as goal

pub returns-clause-middle : goal.returns-clause-middle
returns-clause-middle c =
    middle_law _ _ _ _ _ _ c.product-along.ensures.product c.twice-double.ensures.twice c.twice.ensures.twice
