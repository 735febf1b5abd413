use Rattle.jcard_outcomes.specs.Row.{line_text, script_text}
use Rattle.jcard_texts.proofs.Items.{text_grows, text_whole}
use Rattle.jcard_outcomes.proofs.RowReports.{script_more, script_none}
use Rattle.jcard_outcomes.proofs.row.script.Goals as goal

pub loop-row-preserved : goal.loop-row-preserved
loop-row-preserved c = text_grows line_text script_text script_none script_more c.args.rows.now c.loop-row.row-index c.row-item.result _
    c.loop-row.script.items c.push_line.new.script.items c.loop-row-test.true c.row-item.is c.in_ok-push_line.ensures c.loop-row.invariant

pub returns : goal.returns
returns c = text_whole line_text script_text script_none script_more c.args.rows.now c.loop-row.row-index _ c.loop-row.script.items c.loop-row-test.false
    c.loop-row.invariant
