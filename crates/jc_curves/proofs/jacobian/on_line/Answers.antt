use Rattle.jc_curves.proofs.Formulas.{line_law}
use Rattle.jc_curves.proofs.jacobian.on_line.Goals as goal

pub returns-clause-y : goal.returns-clause-y
returns-clause-y c =
    line_law _ _ _ _ _ _ _ _ c.difference-along.ensures.difference c.product-rise.ensures.product c.difference.ensures.difference
