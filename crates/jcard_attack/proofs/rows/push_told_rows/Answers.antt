use Rattle.std.proofs.Common.{◌∙◌, Some, sym}
use Rattle.std.specs.Prelude.{option_map}
use Rattle.jcard_outcomes.proofs.RowSteps.{rows_told}
use Rattle.jcard_attack.specs.Report.{open_text, row_by, told_by}
use Rattle.jcard_attack.proofs.RowSteps.{rows_done, rows_next_read}
use Rattle.jcard_attack.proofs.rows.push_told_rows.Goals as goal

pub loop-fault-preserved : goal.loop-fault-preserved
loop-fault-preserved c = rows_next_read told_by c.args.faults.now c.loop-fault.fault-index _ c.with_fault.new.text.items c.loop-fault.text.items
    (Some (row_by c.in_ok-next.next)) (option_map row_by c.loop-fault.row) c.loop-fault-test.true c.in_ok-next.ensures ∙ c.loop-fault.invariant

pub returns : goal.returns
returns c =
    let row = option_map row_by c.loop-fault.row in
    rows_told c.push_open.result c.loop-fault.text.items _ _ (open_text row)
    (sym (rows_done told_by c.args.faults.now c.loop-fault.fault-index c.loop-fault.text.items row c.loop-fault-test.false) ∙ c.loop-fault.invariant)
    c.push_open.ensures
