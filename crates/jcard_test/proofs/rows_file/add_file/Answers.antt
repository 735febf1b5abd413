use Rattle.std.proofs.Common.{[], subst}
use Rattle.std.specs.String.{string_bytes}
use Rattle.jcard_test.specs.TextLines.{AreLinesOf}
use Rattle.jcard_test.specs.Tests.{IsRowsText}
use Rattle.jcard_test.proofs.RowTests.{nothing_noted}
use Rattle.jcard_test.proofs.rows_file.add_file.Goals as goal

pub returns-in_default : goal.returns-in_default
returns-in_default g c = ([], g.met.D.Disk.none c.args.disk.now, nothing_noted c.args.sources.now.items, tt)

pub returns-in-Ok-add_lines : goal.returns-in-Ok-add_lines
returns-in-Ok-add_lines g c =
    let read = c.in-Ok-rows_text.ensures in
    let added = c.in-Ok-add_lines.ensures in
    let here = subst (λ t. AreLinesOf c.args.number t added.0) c.as_str-in-Ok-rows_text.ensures.value added.1 in
    let text = subst (λ p. IsRowsText p (string_bytes c.in-Ok-rows_text.text) read.0) c.as_str.ensures.value read.3 in (
      read.0,
      read.1,
      read.2,
      (added.0, (string_bytes c.in-Ok.path, string_bytes c.in-Ok-rows_text.text, c.in-Ok.ensures, text, here), added.2),
    )

pub returns-in-Ok-rows_text : goal.returns-in-Ok-rows_text
returns-in-Ok-rows_text g c =
    let read = c.in-Ok-rows_text.ensures in
    (read.0, read.1, read.2, tt)

pub returns : goal.returns
returns g c =
    let read = c.in-Err.ensures in
    (read.0, read.1, read.2, c.include_fault.ensures.untested)
