use Rattle.std.proofs.Common.{[], ◌++◌, Ok, Err, refl, sym, append-nil}
use Rattle.std.proofs.lemmas.Result.{err_from_is_err_and}
use Rattle.jcard_texts.proofs.Known.{appends_same}
use Rattle.jcard_files.proofs.Effects.{unfailed}
use Rattle.jcard_test.proofs.testing.test_beside.Goals as goal

pub returns : goal.returns
returns g c =
    let begun = c.in_ok-begin_junit.ensures.begun in
    let done = c.test_on.ensures.0 in (
      (
        done.0,
        begun.0 ++ done.1,
        done.2,
        (Ok tt, begun.0, done.1, refl, begun.2, done.3),
        g.met.D.Disk.then _ _ _ begun.0 done.1 begun.1 done.4,
      ),
      c.test_on.ensures.1,
    )

pub returns-in_err-begin_junit : goal.returns-in_err-begin_junit
returns-in_err-begin_junit g c =
    let begun = c.in_err-begin_junit.ensures.begun in
    let fault = c.in_err-begin_junit.field-0.0 in
    let p = err_from_is_err_and c.from_residual.result c.from_residual.ensures.1 in
    rw (p.1, p.2) (
      ([], begun.0, appends_same _, (Err fault, begun.0, [], sym (append-nil begun.0), begun.2, (refl, refl, refl)), begun.1),
      unfailed _ fault c.in_err-begin_junit.ensures.unwritten,
    )
