use Rattle.jcard_outcomes.proofs.CutReports.{no_address, no_before, no_is, no_now}
use Rattle.jcard_outcomes.proofs.line.difference_of.Goals as goal

pub returns-in_default : goal.returns-in_default
returns-in_default c = no_address c.args.text.now c.in_default.ensures

pub returns-in_default-labelled_word : goal.returns-in_default-labelled_word
returns-in_default-labelled_word c = no_before c.args.text.now c.in-Some.address c.in-Some.rest.now c.in-Some.ensures.0 c.in-Some.ensures.1
    c.in_default-labelled_word.ensures

pub returns-in_default-after : goal.returns-in_default-after
returns-in_default-after c = no_is c.args.text.now c.in-Some.address c.in-Some.rest.now c.in-Some-labelled_word.before c.in-Some-labelled_word.rest.now
    c.in-Some.ensures.0 c.in-Some-labelled_word.ensures.0 c.in-Some.ensures.1 c.in-Some-labelled_word.ensures.1 c.in_default-after.ensures

pub returns-in-None : goal.returns-in-None
returns-in-None c = no_now c.args.text.now c.in-Some.address c.in-Some.rest.now c.in-Some-labelled_word.before c.in-Some-labelled_word.rest.now
    c.in-Some-after.digits.now c.in-Some.ensures.0 c.in-Some-labelled_word.ensures.0 c.in-Some.ensures.1 c.in-Some-labelled_word.ensures.1
    c.in-Some-after.ensures c.in-None.ensures
