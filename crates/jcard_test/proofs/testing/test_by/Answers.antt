use Rattle.std.proofs.Common.{[], ◌++◌, refl, sym, subst, inl, inr, append-nil}
use Rattle.std.proofs.lemmas.Result.{err_from_is_err_and}
use Rattle.jcard_texts.proofs.Known.{appends_same}
use Rattle.jcard_test.specs.Tests.{IsTestOfRead}
use Rattle.jcard_test.proofs.RowTests.{any_unwritten}
use Rattle.jcard_test.specs.Sources.{names_of, paths_of}
use Rattle.jcard_files.proofs.Effects.{unfailed}
use Rattle.jcard_test.proofs.testing.test_by.Goals as goal

pub returns : goal.returns
returns g c =
    let read = c.in_ok-read.ensures in
    let done = c.test_read.ensures.0 in
    let files = c.in_ok-read.read.files.items in
    let sources = paths_of c.in_ok-read.read.sources.items in
    let named = subst (λ ns. IsTestOfRead c.args.plan.now (names_of ns) files sources c.args.asked c.test_read.result done.0 done.1) read.3.0 done.3 in
    let tested = subst (λ ps. IsTestOfRead c.args.plan.now (names_of c.args.names.now) files ps c.args.asked c.test_read.result done.0 done.1) read.3.2 named in (
      (
        done.0,
        read.0 ++ done.1,
        done.2,
        (read.0, done.1, refl, read.2, inr (files, read.3.1, tested)),
        g.met.D.Disk.then _ _ _ read.0 done.1 read.1 done.4,
      ),
      c.test_read.ensures.1,
    )

pub returns-in_err-read : goal.returns-in_err-read
returns-in_err-read g c =
    let unread = c.in_err-read.ensures in
    let fault = c.in_err-read.field-0.0 in
    let p = err_from_is_err_and c.from_residual.result c.from_residual.ensures.1 in
    rw (p.1, p.2) (
      ([], unread.0, appends_same _, (unread.0, [], sym (append-nil unread.0), unread.2, inl (fault, refl, unread.3, refl, refl)), unread.1),
      unfailed _ fault (any_unwritten (names_of c.args.names.now) fault unread.0 unread.3),
    )
