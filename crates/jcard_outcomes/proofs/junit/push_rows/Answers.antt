use Rattle.std.proofs.Common.{◌∙◌, ◌++◌, ap}
use Rattle.jcard_outcomes.specs.Junit.{case_text}
use Rattle.jcard_outcomes.proofs.RowReports.{case_more, case_whole}
use Rattle.jcard_outcomes.proofs.junit.push_rows.Goals as goal

pub loop-k-preserved : goal.loop-k-preserved
loop-k-preserved c = case_more c.args.file.now c.args.first c.args.rows.now c.loop-k.k c.index-rows-k.result _ c.loop-k.text.items c.push_case.new.text.items
    c.loop-k-test.true c.index-rows-k.is
    (c.in_ok-push_case.ensures ∙ ap (λ place. c.loop-k.text.items ++ case_text c.args.file.now place c.index-rows-k.result) c.saturating_add.ensures) c.loop-k.invariant

pub returns : goal.returns
returns c = case_whole c.args.file.now c.args.first c.args.rows.now c.loop-k.k _ c.loop-k.text.items c.loop-k-test.false c.loop-k.invariant
