use Rattle.std.proofs.Common.{[]}
use Rattle.jcard_test.proofs.RowTests.{nothing_noted, table_noted, table_read}
use Rattle.jcard_test.proofs.rows_file.table_text.Goals as goal

pub returns-in-Ok : goal.returns-in-Ok
returns-in-Ok g c =
    let read = c.text_of.ensures in
    let name = c.args.name.now in (
      read.0,
      read.1,
      table_noted (λ t. t.items) c.text_of.result _ _ name read.0 c.in-Ok.ensures.noted read.2,
      table_read (λ t. t.items) c.text_of.result name read.0 read.2,
    )

pub returns-in-Err : goal.returns-in-Err
returns-in-Err g c = ([], g.met.D.Disk.none c.args.disk.now, rw c.in-Err.ensures.unnoted (nothing_noted c.args.sources.now.items), tt)
