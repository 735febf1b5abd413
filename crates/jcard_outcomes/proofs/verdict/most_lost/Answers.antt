use Rattle.std.proofs.Common.{◌∙◌, sym}
use Rattle.jcard_outcomes.proofs.Differences.{most_end, most_next}
use Rattle.jcard_outcomes.proofs.verdict.most_lost.Goals as goal

pub loop-cut-preserved : goal.loop-cut-preserved
loop-cut-preserved c = rw c.larger-most.ensures (sym (most_next c.args.cuts.now c.loop-cut.most c.loop-cut.cut-index c.cut-item.result
    c.loop-cut-test.true c.cut-item.is) ∙ c.loop-cut.invariant)

pub returns : goal.returns
returns c = sym (most_end c.args.cuts.now c.loop-cut.most c.loop-cut.cut-index c.loop-cut-test.false) ∙ c.loop-cut.invariant
