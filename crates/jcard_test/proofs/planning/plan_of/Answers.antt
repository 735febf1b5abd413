use Rattle.std.proofs.Common.{[], refl, sym, subst, inl, inr}
use Rattle.std.proofs.lemmas.Result.{err_from_is_err_and}
use Rattle.jcard_files.specs.ImageSize.{IsNoExtent}
use Rattle.jcard_files.specs.UsualTable.{IsNoPlatform}
use Rattle.jcard_test.specs.Planning.{buffer_asked, cells_asked, table_asked}
use Rattle.jcard_test.proofs.PlannedCards.{no_platform_reading, platform_reading}
use Rattle.jcard_test.proofs.RowTests.{no_reading}
use Rattle.jcard_test.proofs.planning.plan_of.Goals as goal

pub returns-in_err-extent : goal.returns-in_err-extent
returns-in_err-extent g c =
    let a = c.args.asked in
    let p = err_from_is_err_and c.from_residual.result c.from_residual.ensures.1 in
    let none = subst (IsNoExtent a.size.words.now a.size.journal.now (cells_asked a) (buffer_asked a)) (sym p.2) c.in_err-extent.ensures in
    ([], g.met.D.Disk.none c.args.disk.now, no_reading, rw p.1 (inl (none, refl)))

pub returns-in_err-table : goal.returns-in_err-table
returns-in_err-table g c =
    let table = table_asked c.args.asked in
    let unread = c.in_err-table.ensures in
    let p = err_from_is_err_and c.from_residual-in_err-table.result c.from_residual-in_err-table.ensures.1 in
    let none = subst (λ fault. IsNoPlatform table fault unread.0) (sym p.2) unread.2 in
    (unread.0, unread.1, no_platform_reading table p.0 unread.0 none, rw p.1 (inr none))

pub returns : goal.returns
returns g c =
    let read = c.in_ok-table.ensures in (
      read.0,
      read.1,
      platform_reading (table_asked c.args.asked) c.in_ok-table.table.items read.0 read.2,
      (c.in_ok-extent.ensures, refl, read.2),
    )
