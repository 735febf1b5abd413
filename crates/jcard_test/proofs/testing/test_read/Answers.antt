use Rattle.std.proofs.Common.{[], refl, subst, inl, inr}
use Rattle.jcard_texts.proofs.Known.{appends_same}
use Rattle.jcard_test.specs.Planning.{table_asked}
use Rattle.jcard_test.specs.Sources.{AreSpared, name_of, names_of, paths_of}
use Rattle.jcard_test.specs.Tests.{IsTestBeside}
use Rattle.jcard_test.proofs.testing.test_read.Goals as goal

pub returns-in_default : goal.returns-in_default
returns-in_default g c = (([], [], appends_same _, inl (refl, refl, refl), g.met.D.Disk.none c.args.disk.now), refl)

pub returns : goal.returns
returns g c =
    let done = c.test_beside.ensures.0 in
    let p = c.args.plan.now in
    let a = c.args.asked in
    let operands = c.in-Ok.operands.items in
    let ended = c.test_beside.result in
    let spared = subst (λ ss. AreSpared (names_of c.args.read.now.names.now) (table_asked a) (paths_of ss) operands) c.deref.ensures.value c.in-Ok.ensures in
    let by_files = subst (λ files. IsTestBeside p files c.deref-2.result.now (name_of a.junit) ended done.0 done.1) c.deref-3.ensures.value done.3 in
    let tested = subst (λ os. IsTestBeside p c.args.read.now.files.items os (name_of a.junit) ended done.0 done.1) c.deref-2.ensures.value by_files in
    ((done.0, done.1, done.2, inr (operands, spared, tested), done.4), c.test_beside.ensures.1)
