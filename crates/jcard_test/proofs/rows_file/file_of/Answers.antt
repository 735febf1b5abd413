use Rattle.std.proofs.Common.{◌++◌}
use Rattle.std.proofs.lemmas.Result.{err_from_is_err_and}
use Rattle.std.specs.Prelude.{option_map}
use Rattle.jcard_test.proofs.RowTests.{file_read, noted_more}
use Rattle.jcard_test.proofs.rows_file.file_of.Goals as goal

pub returns : goal.returns
returns g c =
    let read = c.in_ok-text.ensures in
    let more = c.unrolled.ensures in (
      read.0 ++ more.0,
      g.met.D.Disk.then _ _ _ read.0 more.0 read.1 more.1,
      noted_more _ _ _ read.0 more.0 read.2 more.2,
      file_read (λ f. option_map (λ t. t.items) f.table) (λ f. f.lines.items) c.unrolled.result c.args.name.now _ _ read.0 more.0 read.3
          c.as_str.ensures.value more.3,
    )

pub returns-in_err-text : goal.returns-in_err-text
returns-in_err-text g c =
    let read = c.in_err-text.ensures in
    let p = err_from_is_err_and c.from_residual.result c.from_residual.ensures.1 in
    rw (p.1, p.2) (read.0, read.1, read.2, read.3)
