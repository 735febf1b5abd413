use Rattle.jcard_outcomes.specs.RowReport.{lines_text, tested_text}
use Rattle.jcard_texts.proofs.Items.{text_grows, text_whole}
use Rattle.jcard_outcomes.proofs.RowReports.{lines_more, lines_none}
use Rattle.jcard_outcomes.proofs.row_report.push_lines.Goals as goal

pub loop-file-preserved : goal.loop-file-preserved
loop-file-preserved c = text_grows tested_text lines_text lines_none lines_more c.args.tested.now c.loop-file.file-index c.file-item.result _
    c.loop-file.text.items c.push_tested.new.text.items c.loop-file-test.true c.file-item.is c.in_ok-push_tested.ensures c.loop-file.invariant

pub returns : goal.returns
returns c = text_whole tested_text lines_text lines_none lines_more c.args.tested.now c.loop-file.file-index _ c.loop-file.text.items c.loop-file-test.false
    c.loop-file.invariant
