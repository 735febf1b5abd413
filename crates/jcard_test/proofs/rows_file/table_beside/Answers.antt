use Rattle.std.proofs.Common.{[], subst}
use Rattle.std.specs.String.{string_bytes}
use Rattle.jcard_files.specs.Reading.{IsRead}
use Rattle.jcard_test.proofs.RowTests.{nothing_noted}
use Rattle.jcard_test.proofs.rows_file.table_beside.Goals as goal

pub returns-in_default : goal.returns-in_default
returns-in_default g c = ([], g.met.D.Disk.none c.args.disk.now, nothing_noted c.args.sources.now.items, tt)

pub returns-in-Ok-table_text : goal.returns-in-Ok-table_text
returns-in-Ok-table_text g c =
    let read = c.in-Ok-table_text.ensures in
    let path = string_bytes c.in-Ok.table in
    let text = subst (λ p. IsRead p c.in-Ok-table_text.text.items read.0) c.as_str.ensures.value read.3 in
    (read.0, read.1, read.2, (path, c.in-Ok.ensures, text))

pub returns : goal.returns
returns g c =
    let read = c.in-Err.ensures in
    (read.0, read.1, read.2, c.include_fault.ensures.untested)
