use Rattle.std.proofs.Common.{◌∙◌, sym}
use Rattle.jcard_outcomes.proofs.Counts.{tries_end, tries_found, tries_passed}
use Rattle.jcard_outcomes.proofs.verdict.any_but_tries.Goals as goal

pub returns-then-is_but_tries : goal.returns-then-is_but_tries
returns-then-is_but_tries c = sym (tries_found c.args.cuts.now c.loop-cut.cut-index c.cut-item.result c.loop-cut-test.true c.cut-item.is
    (sym c.is_but_tries.ensures ∙ c.if-is_but_tries.true)) ∙ c.loop-cut.invariant

pub loop-cut-preserved : goal.loop-cut-preserved
loop-cut-preserved c = sym (tries_passed c.args.cuts.now c.loop-cut.cut-index c.cut-item.result c.loop-cut-test.true c.cut-item.is
    (sym c.is_but_tries.ensures ∙ c.if-is_but_tries.false)) ∙ c.loop-cut.invariant

pub returns : goal.returns
returns c = sym (tries_end c.args.cuts.now c.loop-cut.cut-index c.loop-cut-test.false) ∙ c.loop-cut.invariant
