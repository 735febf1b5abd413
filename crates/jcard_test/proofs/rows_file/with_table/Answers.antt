use Rattle.std.proofs.Common.{◌++◌, refl}
use Rattle.std.proofs.lemmas.Result.{err_from_is_err_and}
use Rattle.jcard_test.proofs.RowTests.{noted_more}
use Rattle.jcard_test.proofs.rows_file.with_table.Goals as goal

pub returns : goal.returns
returns g c =
    let read = c.in_ok-table.ensures in
    let more = c.in_ok-lines.ensures in (
      read.0 ++ more.0,
      g.met.D.Disk.then _ _ _ read.0 more.0 read.1 more.1,
      noted_more _ _ _ read.0 more.0 read.2 more.2,
      (read.0, more.0, read.3, more.3, refl),
    )

pub returns-in_err-table : goal.returns-in_err-table
returns-in_err-table g c =
    let read = c.in_err-table.ensures in
    let p = err_from_is_err_and c.from_residual.result c.from_residual.ensures.1 in
    rw (p.1, p.2) (read.0, read.1, read.2, read.3)

pub returns-in_err-lines : goal.returns-in_err-lines
returns-in_err-lines g c =
    let read = c.in_ok-table.ensures in
    let more = c.in_err-lines.ensures in
    let p = err_from_is_err_and c.from_residual-in_err-lines.result c.from_residual-in_err-lines.ensures.1 in
    rw (p.1, p.2) (read.0 ++ more.0, g.met.D.Disk.then _ _ _ read.0 more.0 read.1 more.1, noted_more _ _ _ read.0 more.0 read.2 more.2, more.3)
