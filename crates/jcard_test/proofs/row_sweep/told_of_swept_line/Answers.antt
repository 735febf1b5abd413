use Rattle.jcard_test.proofs.row_sweep.told_of_swept_line.Goals as goal

pub returns-then-row : goal.returns-then-row
returns-then-row c = rw c.if-row.true (rw c.deref.ensures.value at c.told_of_faults.ensures)
