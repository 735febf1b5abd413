use Rattle.std.proofs.Common.{[], ◌++◌, refl, inl, inr}
use Rattle.std.proofs.lemmas.Result.{err_from_is_err_and}
use Rattle.jcard_texts.proofs.Known.{appends_same}
use Rattle.jcard_test.proofs.PlannedCards.{unplanned_unwritten}
use Rattle.jcard_files.proofs.Effects.{unfailed}
use Rattle.jcard_test.proofs.testing.test_files.Goals as goal

pub returns : goal.returns
returns g c =
    let planned = c.in_ok-plan.ensures in
    let done = c.test_by.ensures.0 in (
      (
        done.0,
        planned.0 ++ done.1,
        done.2,
        inr (c.in_ok-plan.plan, planned.0, done.1, refl, planned.3, done.3),
        g.met.D.Disk.then _ _ _ planned.0 done.1 planned.1 done.4,
      ),
      c.test_by.ensures.1,
    )

pub returns-in_err-plan : goal.returns-in_err-plan
returns-in_err-plan g c =
    let unplanned = c.in_err-plan.ensures in
    let fault = c.in_err-plan.field-0.0 in
    let p = err_from_is_err_and c.from_residual.result c.from_residual.ensures.1 in
    rw (p.1, p.2) (
      ([], unplanned.0, appends_same _, inl (fault, refl, unplanned.3, refl), unplanned.1),
      unfailed _ fault (unplanned_unwritten c.args.asked fault unplanned.0 unplanned.3),
    )
