use Rattle.jcard_outcomes.proofs.CutReports.{no_calls, only_calls}
use Rattle.jcard_outcomes.proofs.line.changed_of.Goals as goal

pub returns-in-None : goal.returns-in-None
returns-in-None c = no_calls c.args.text.now c.in_default.ensures c.in-None.ensures

pub returns-in-None-difference_of : goal.returns-in-None-difference_of
returns-in-None-difference_of c = only_calls c.args.text.now c.in-Some.front.now c.in-Some.ensures c.in-None-difference_of.ensures
