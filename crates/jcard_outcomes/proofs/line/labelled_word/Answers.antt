use Rattle.jcard_outcomes.proofs.CutReports.{no_space, no_word}
use Rattle.jcard_outcomes.proofs.line.labelled_word.Goals as goal

pub returns-in_default-cut_once : goal.returns-in_default-cut_once
returns-in_default-cut_once c = no_space c.args.text.now c.args.label.now c.in-Some.rest.now c.in-Some.ensures c.in_default-cut_once.ensures

pub returns-in-None : goal.returns-in-None
returns-in-None c = no_word c.args.text.now c.args.label.now c.in-Some.rest.now c.in-Some-cut_once.digits.now c.in-Some-cut_once.rest.now
    c.in-Some.ensures c.in-Some-cut_once.ensures.0 c.in-Some-cut_once.ensures.1 c.in-None.ensures
