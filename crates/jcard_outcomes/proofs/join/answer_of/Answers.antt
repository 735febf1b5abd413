use Rattle.std.proofs.Common.{◌∙◌, ◌++◌, ap, codes}
use Rattle.jcard_outcomes.proofs.CutReports.{no_colon}
use Rattle.jcard_outcomes.proofs.join.answer_of.Goals as goal

pub returns-in_default : goal.returns-in_default
returns-in_default c = λ answer h. c.in_default.ensures _ h.1

pub returns-in-Some-cut_once : goal.returns-in-Some-cut_once
returns-in-Some-cut_once c =
    (c.in-Some-cut_once._rest.now, c.in-Some.ensures ∙ ap (λ l. codes "no cut, answer " ++ l) c.in-Some-cut_once.ensures.0, c.in-Some-cut_once.ensures.1)

pub returns-in-None : goal.returns-in-None
returns-in-None c = no_colon c.args.uncut.now c.in-Some.rest.now c.in-Some.ensures c.in-None.ensures
