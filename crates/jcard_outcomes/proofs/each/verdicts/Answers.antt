use Rattle.std.proofs.Common.{◌∙◌}
use Rattle.jcard_outcomes.proofs.Verdicts.{verdict_more, verdicts_end}
use Rattle.jcard_outcomes.proofs.each.verdicts.Goals as goal

pub loop-sweep-preserved : goal.loop-sweep-preserved
loop-sweep-preserved c = verdict_more c.args.rows c.args.sweeps.now c.loop-sweep.sweep-index c.sweep-item.result c.loop-sweep.text.items c.push_line_verdict.new.text.items
    c.loop-sweep-test.true c.sweep-item.is c.in_ok-push_line_verdict.ensures ∙ c.loop-sweep.invariant

pub returns : goal.returns
returns c = verdicts_end c.args.rows c.args.sweeps.now c.loop-sweep.sweep-index c.loop-sweep.text.items c.loop-sweep-test.false ∙ c.loop-sweep.invariant
