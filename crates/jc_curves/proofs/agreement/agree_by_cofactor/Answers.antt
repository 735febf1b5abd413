use Rattle.jc_curves.proofs.agreement.agree_by_cofactor.Goals as goal

pub returns : goal.returns
returns c = rw (← c.curve.view_is) (rw (← c.curve.view_is) at c.agree_by.ensures)
