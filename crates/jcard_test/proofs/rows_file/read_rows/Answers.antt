use Rattle.std.proofs.Common.{inl}
use Rattle.std.proofs.lemmas.Result.{err_from_is_err_and}
use Rattle.std.specs.String.{string_bytes}
use Rattle.jcard_test.proofs.RowTests.{text_read}
use Rattle.jcard_test.proofs.rows_file.read_rows.Goals as goal

pub returns : goal.returns
returns g c =
    let read = c.in_ok-bytes.ensures.read in (
      read.0,
      read.1,
      text_read (λ t. string_bytes t) c.text_of_bytes.result c.args.name.now c.in_ok-bytes.bytes.items read.0 read.2 c.text_of_bytes.ensures.text c.text_of_bytes.ensures.refused,
    )

pub returns-in_err-bytes : goal.returns-in_err-bytes
returns-in_err-bytes g c =
    let read = c.in_err-bytes.ensures.read in
    let p = err_from_is_err_and c.from_residual.result c.from_residual.ensures.1 in
    rw (p.1, p.2) (read.0, read.1, inl read.2)
