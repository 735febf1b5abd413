use Rattle.std.proofs.Common.{◌≡◌, ◌∙◌, subst, sym}
use Rattle.std.proofs.lemmas.Result.{err_from_is_err_and}
use Rattle.jc_card.specs.Session.Requests.{Reply, reply_of}
use Rattle.jc_card.specs.Session.Serving.{AnswersReset}
use Rattle.jc_card.specs.State.{answer_of_power_up, kept_power, power_of}
use Rattle.jc_card.proofs.HeldStates.{reset_answered, same_answer, same_budget, store_held}
use Rattle.jc_card.proofs.Resets.{start_fails}
use Rattle.jc_card.proofs.session.reset.Goals as goal

pub returns-clause-reset : goal.returns-clause-reset
returns-clause-reset g c =
    let S = g.S.WordStore in
    let before = power_of c.args.held in
    let after = power_of c.in_ok-held.held in
    let kept = kept_power S.words S.down S.passed S.refusals before in
    let next = kept_power S.words S.down S.passed S.refusals after in
    let told : reply_of c.power_up_answer-answer.result ≡ answer_of_power_up next = c.power_up_answer-answer.ensures
    ∙ same_answer S.words S.down S.passed S.refusals after in
    subst (λ (r : Reply). AnswersReset kept r next) (sym told)
    (reset_answered kept next _ c.budget-budget.result (c.budget-budget.ensures ∙ same_budget S.words S.down S.passed S.refusals before)
    (store_held S.words S.down S.passed S.refusals before c.into_store-store.result c.requires.good c.into_store-store.ensures) c.in_ok-held.ensures.powered)

pub returns-in_err-held-clause-fault : goal.returns-in_err-held-clause-fault
returns-in_err-held-clause-fault g c =
    let S = g.S.WordStore in
    let before = power_of c.args.held in
    let p = err_from_is_err_and c.from_residual.result c.from_residual.ensures.1 in
    rw (p.1, p.2) (start_fails c.in_err-held.field-0.0.0 (kept_power S.words S.down S.passed S.refusals before) _ _
    (store_held S.words S.down S.passed S.refusals before c.into_store-store.result c.requires.good c.into_store-store.ensures) c.in_err-held.ensures.fault)
