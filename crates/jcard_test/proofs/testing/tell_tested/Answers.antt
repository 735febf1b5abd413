use Rattle.std.proofs.Common.{[], ◌∙◌, Ok, Err, ap, refl, sym}
use Rattle.std.proofs.lemmas.Result.{err_from_is_err_and}
use Rattle.jc_words.specs.Count.{failures_after}
use Rattle.jcard_test.proofs.testing.tell_tested.Goals as goal

pub returns : goal.returns
returns g c =
    let told = c.in_ok-tell.ensures.0 in
    let kept = c.keep_junit.ensures.kept in (
      (told.0, kept.0, told.1, (Ok tt, told.2, kept.2), kept.1),
      c.in_ok-tell.ensures.1 ∙ sym (ap (failures_after (g.W.TextOut.failures c.args.out.now)) c.keep_junit.ensures.unwritten),
    )

pub returns-in_err-tell : goal.returns-in_err-tell
returns-in_err-tell g c =
    let told = c.in_err-tell.ensures.0 in
    let fault = c.in_err-tell.field-0.0 in
    let p = err_from_is_err_and c.from_residual.result c.from_residual.ensures.1 in
    rw (p.1, p.2) ((told.0, [], told.1, (Err fault, told.2, (refl, refl)), g.met.D.Disk.none c.args.disk.now), c.in_err-tell.ensures.1)
