use Rattle.std.proofs.Common.{refl}
use Rattle.std.proofs.lemmas.Result.{err_from_is_err_and}
use Rattle.jcard_test.specs.declared.rows_file.NamedFile.{NamedFile}
use Rattle.jcard_test.proofs.RowTests.{file_pushed}
use Rattle.jcard_test.proofs.files_read.add_named_file.Goals as goal

pub returns : goal.returns
returns g c =
    let read = c.in_ok-file.ensures in
    let file : NamedFile = record { name = c.args.name; file = c.in_ok-file.file } in (
      read.0,
      read.1,
      read.2,
      file_pushed c.push_file.result c.args.name.now _ _ file read.0 (refl, read.3) c.push_file.ensures.pushed c.push_file.ensures.refused,
    )

pub returns-in_err-file : goal.returns-in_err-file
returns-in_err-file g c =
    let read = c.in_err-file.ensures in
    let p = err_from_is_err_and c.from_residual.result c.from_residual.ensures.1 in
    rw (p.1, p.2) (read.0, read.1, read.2, read.3)
