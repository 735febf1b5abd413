use Rattle.std.proofs.Common.{[], inr}
use Rattle.std.specs.String.{string_bytes}
use Rattle.jcard_test.proofs.RowTests.{nothing_noted, rows_noted, rows_or_fault}
use Rattle.jcard_test.proofs.rows_file.rows_text.Goals as goal

pub returns-in-Ok : goal.returns-in-Ok
returns-in-Ok g c =
    let read = c.read_rows.ensures in
    let name = c.args.name.now in (
      read.0,
      read.1,
      rows_noted (λ t. string_bytes t) c.read_rows.result _ _ name read.0 c.in-Ok.ensures.noted read.2,
      rows_or_fault (λ t. string_bytes t) c.read_rows.result name read.0 read.2,
    )

pub returns-in-Err : goal.returns-in-Err
returns-in-Err g c = ([], g.met.D.Disk.none c.args.disk.now, rw c.in-Err.ensures.unnoted (nothing_noted c.args.sources.now.items), inr tt)
