use Rattle.std.proofs.Common.{List, ℕ, refl, subst}
use Rattle.jcard_tear.specs.KeptCard.{GivesAnswers}
use Rattle.jcard_tear.proofs.last_cut.answered.Goals as goal

pub returns-in-Some : goal.returns-in-Some
returns-in-Some c = (
  (
    c.requires.recovered,
    subst (λ (w : List ℕ). GivesAnswers c.args.budget w c.args.probe.now c.in-Some.answers.items) c.deref.ensures.value c.in-Some.ensures,
  ),
  refl,
)
