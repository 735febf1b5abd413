use Rattle.jcard_outcomes.proofs.join.is_uncut.Goals as goal

pub returns-in-None : goal.returns-in-None
returns-in-None c = λ h. c.in-None.ensures h.0 h.1
