use Rattle.std.proofs.Common.{[], refl, subst, inl, inr}
use Rattle.std.proofs.lemmas.Result.{err_from_is_err_and}
use Rattle.jcard_texts.proofs.Known.{appends_same}
use Rattle.jcard_test.specs.Sources.{name_of}
use Rattle.jcard_test.specs.Tests.{IsTold}
use Rattle.jcard_test.proofs.RowTests.{untested_unwritten}
use Rattle.jcard_files.proofs.Effects.{unfailed}
use Rattle.jcard_test.proofs.testing.test_on.Goals as goal

pub returns : goal.returns
returns g c =
    let told = c.tell_tested.ensures.0 in
    let junit = c.args.junit in
    let over = subst (λ ts. IsTold junit.spared.now (name_of junit.name) ts c.tell_tested.result told.0 told.1) c.deref-2.ensures.value told.3 in
    ((told.0, told.1, told.2, inr (c.in_ok-tested.tested.items, c.in_ok-tested.ensures, over), told.4), c.tell_tested.ensures.1)

pub returns-in_err-tested : goal.returns-in_err-tested
returns-in_err-tested g c =
    let fault = c.in_err-tested.field-0.0 in
    let p = err_from_is_err_and c.from_residual.result c.from_residual.ensures.1 in
    rw (p.1, p.2) (
      ([], [], appends_same _, inl (fault, refl, c.in_err-tested.ensures, refl, refl), g.met.D.Disk.none c.args.disk.now),
      unfailed _ fault (untested_unwritten fault c.in_err-tested.ensures),
    )
