use Rattle.std.proofs.Common.{subst, sym}
use Rattle.std.proofs.lemmas.Result.{err_from_is_err_and}
use Rattle.jcard_test.specs.Tests.{IsUnanswered}
use Rattle.jcard_test.proofs.answering.answers.Goals as goal

pub returns : goal.returns
returns g c =
    let e = c.in_ok-printed.ensures in
    (c.in_ok-store.store.words, e.0, e.1, e.2, e.3, e.4, c.in_ok-store.ensures.0, e.5, e.6, e.7)

pub returns-in_err-printed : goal.returns-in_err-printed
returns-in_err-printed g c =
    let p = err_from_is_err_and c.from_residual-in_err-printed.result c.from_residual-in_err-printed.ensures.1 in
    rw (p.1, p.2) (subst (λ f. IsUnanswered c.args.plan.now f) (sym c.in_err-printed.ensures) tt)
