use Rattle.std.proofs.Common.{◌∙◌, sym}
use Rattle.jcard_outcomes.proofs.Counts.{by_calls_end, by_calls_found, by_calls_passed}
use Rattle.jcard_outcomes.proofs.verdict.is_broken_by_calls.Goals as goal

pub returns-then-not-is_whole : goal.returns-then-not-is_whole
returns-then-not-is_whole c = c.is_by_calls.ensures ∙ sym (by_calls_found c.args.cuts.now c.loop-cut.cut-index c.cut-item.result c.loop-cut-test.true c.cut-item.is
    (sym c.is_whole.ensures ∙ c.if-not-is_whole.true)) ∙ c.loop-cut.invariant

pub loop-cut-preserved : goal.loop-cut-preserved
loop-cut-preserved c = sym (by_calls_passed c.args.cuts.now c.loop-cut.cut-index c.cut-item.result c.loop-cut-test.true c.cut-item.is
    (sym c.is_whole.ensures ∙ c.if-not-is_whole.false)) ∙ c.loop-cut.invariant

pub returns : goal.returns
returns c = sym (by_calls_end c.args.cuts.now c.loop-cut.cut-index c.loop-cut-test.false) ∙ c.loop-cut.invariant
