use Rattle.std.proofs.Common.{◌∙◌, List, ℕ, subst, sym}
use Rattle.jcard_outcomes.specs.declared.standing.Left.{Left}
use Rattle.jcard_tear.specs.KeptCard.{GivesAnswers}
use Rattle.jcard_sweeps.specs.Runs.{IsLeft}
use Rattle.jcard_tear.proofs.KeptCuts.{is_left}
use Rattle.jcard_tear.proofs.sweep.left_standing.Goals as goal

pub returns-clause-left : goal.returns-clause-left
returns-clause-left c =
    let budget : ℕ = c.args.budget in
    let probe : List ℕ = c.args.probe.now in
    let left : Left = record { words = c.in-Ok-recovered.found; answers = c.in_ok-answers.answers } in
    let gives = subst (λ (w : List ℕ). GivesAnswers budget w probe left.answers.items) c.deref-2.ensures.value c.in_ok-answers.ensures in
    let same = sym c.deref.ensures.value ∙ c.are_equal.ensures c.if-not-are_equal.false in
    subst (λ (w : List ℕ). IsLeft budget w probe left) same (is_left budget probe left c.in-Ok-recovered.ensures.recovered gives)

pub returns-clause-known : goal.returns-clause-known
returns-clause-known c =
    let gives = subst (λ (w : List ℕ). GivesAnswers c.args.budget w c.args.probe.now c.in_ok-answers.answers.items) c.deref-2.ensures.value c.in_ok-answers.ensures in
    (c.in-Ok-recovered.ensures.recovered, gives)
