use Rattle.std.proofs.Common.{◌≡◌, ◌++◌, drop, map}
use Rattle.std.specs.Prelude.{option_map}
use Rattle.jcard_attack.specs.Report.{told_by, row_by, rows_after, rows_text}
use Rattle.jcard_attack.proofs.rows.push_told_rows.Given as goal

abbrev pub invariant-loop-fault : goal.invariant-loop-fault
invariant-loop-fault l = l.text.items ++ rows_after (option_map row_by l.row) (map told_by (drop l.fault-index l.faults))
    ≡ l.fn.text.items ++ rows_text (map told_by l.faults)
