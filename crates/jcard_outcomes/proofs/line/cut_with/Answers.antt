use Rattle.std.proofs.Common.{◌∙◌, ◌∷◌, ◌++◌, ap, sym, refl}
use Rattle.jcard_outcomes.specs.Part.{cut_tail, has}
use Rattle.jcard_outcomes.proofs.CutReports.{cut_there, no_cut, no_parts}
use Rattle.jcard_outcomes.proofs.line.cut_with.Goals as goal

pub returns-in_default : goal.returns-in_default
returns-in_default c = no_parts c.args.left.now c.in_default.ensures

pub returns-in_default-standing_of : goal.returns-in_default-standing_of
returns-in_default-standing_of c = no_cut c.args.left.now c.in-Some.standing.now c.in-Some.answers.now c.in-Some.lost c.in-Some.ensures.0 c.in-Some.ensures.1
    c.in_default-standing_of.ensures

pub returns : goal.returns
returns c = (
  cut_there c.args.left.now c.in-Some.standing.now (record {
    standing = c.in-Some-standing_of.standing;
    lost = c.in-Some.lost;
    answers = c.in_ok-answers.answers;
    recoveries = c.args.recoveries;
  })
      (c.in-Some.ensures.0 ∙ ap (λ l. c.in-Some.standing.now ++ 44 ∷ cut_tail c.in-Some.lost l) (sym c.in_ok-answers.ensures.items))
      c.in-Some-standing_of.ensures.0 c.requires,
  ap (has 44) (sym c.in-Some-standing_of.ensures.0) ∙ c.in-Some.ensures.1,
  (c.in-Some-standing_of.ensures.1, c.in-Some.ensures.2),
  refl,
)
