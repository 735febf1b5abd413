use Rattle.std.proofs.Common.{◌∙◌, sym}
use Rattle.jcard_outcomes.proofs.Differences.{ways_end, ways_next}
use Rattle.jcard_outcomes.proofs.recoveries.count_ways.Goals as goal

pub returns : goal.returns
returns c = sym (ways_end c.args.cuts.now c.loop-cut.ways c.loop-cut.cut-index c.loop-cut-test.false) ∙ c.loop-cut.invariant

pub loop-cut-preserved : goal.loop-cut-preserved
loop-cut-preserved c = rw c.saturating_add-ways.ensures (sym (ways_next c.args.cuts.now c.loop-cut.ways c.loop-cut.cut-index c.cut-item.result
    c.loop-cut-test.true c.cut-item.is) ∙ c.loop-cut.invariant)
