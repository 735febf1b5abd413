use Rattle.jcard_outcomes.proofs.CutReports.{no_answers, no_comma, no_lost, parts_there}
use Rattle.jcard_outcomes.proofs.line.parts_of.Goals as goal

pub returns-in_default : goal.returns-in_default
returns-in_default c = no_comma c.args.told.now c.in_default.ensures

pub returns-in_default-labelled_word : goal.returns-in_default-labelled_word
returns-in_default-labelled_word c = no_lost c.args.told.now c.in-Some.standing.now c.in-Some.rest.now c.in-Some.ensures.0 c.in-Some.ensures.1
    c.in_default-labelled_word.ensures

pub returns-in-None : goal.returns-in-None
returns-in-None c = no_answers c.args.told.now c.in-Some.standing.now c.in-Some.rest.now c.in-Some-labelled_word.rest.now c.in-Some-labelled_word.lost
    c.in-Some.ensures.0 c.in-Some.ensures.1 c.in-Some-labelled_word.ensures.0 c.in-Some-labelled_word.ensures.1 c.in-None.ensures

pub returns-in-Some-after : goal.returns-in-Some-after
returns-in-Some-after c = (
  parts_there c.args.told.now c.in-Some.standing.now c.in-Some.rest.now c.in-Some-labelled_word.rest.now c.in-Some-after.answers.now c.in-Some-labelled_word.lost
      c.in-Some.ensures.0 c.in-Some-labelled_word.ensures.1 c.in-Some-after.ensures,
  c.in-Some.ensures.1,
  c.in-Some-labelled_word.ensures.0,
)
