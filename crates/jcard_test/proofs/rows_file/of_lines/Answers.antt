use Rattle.std.proofs.lemmas.Result.{err_from_is_err_and}
use Rattle.std.specs.Prelude.{option_map}
use Rattle.jcard_test.proofs.RowTests.{named_file}
use Rattle.jcard_test.proofs.rows_file.of_lines.Goals as goal

pub returns-in-Some : goal.returns-in-Some
returns-in-Some g c =
    let file = c.with_table.ensures in (
      file.0,
      file.1,
      file.2,
      named_file (λ f. option_map (λ t. t.items) f.table) (λ f. f.lines.items) c.with_table.result c.args.name.now c.args.own.now c.in-Some.line
          file.0 c.in-Some.ensures file.3,
    )

pub returns : goal.returns
returns g c =
    let more = c.in_ok-lines.ensures in
    (more.0, more.1, more.2, (c.in_default.ensures, more.3))

pub returns-in_err-lines : goal.returns-in_err-lines
returns-in_err-lines g c =
    let more = c.in_err-lines.ensures in
    let p = err_from_is_err_and c.from_residual.result c.from_residual.ensures.1 in
    rw (p.1, p.2) (more.0, more.1, more.2, more.3)
