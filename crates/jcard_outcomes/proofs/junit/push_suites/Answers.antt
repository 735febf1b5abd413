use Rattle.jcard_outcomes.specs.Junit.{suite_text, suites_text}
use Rattle.jcard_texts.proofs.Items.{text_grows, text_whole}
use Rattle.jcard_outcomes.proofs.RowReports.{suites_more, suites_none}
use Rattle.jcard_outcomes.proofs.junit.push_suites.Goals as goal

pub loop-file-preserved : goal.loop-file-preserved
loop-file-preserved c = text_grows suite_text suites_text suites_none suites_more c.args.tested.now c.loop-file.file-index c.file-item.result _
    c.loop-file.text.items c.push_suite.new.text.items c.loop-file-test.true c.file-item.is c.in_ok-push_suite.ensures c.loop-file.invariant

pub returns : goal.returns
returns c = text_whole suite_text suites_text suites_none suites_more c.args.tested.now c.loop-file.file-index _ c.loop-file.text.items c.loop-file-test.false
    c.loop-file.invariant
