use Rattle.std.proofs.Common.{◌∙◌}
use Rattle.jcard_attack.proofs.Verdicts.{verdict_more, verdicts_end}
use Rattle.jcard_attack.proofs.each.verdicts.Goals as goal

pub loop-found-preserved : goal.loop-found-preserved
loop-found-preserved c = verdict_more c.args.rows c.args.attacks.now c.loop-found.found-index c.found-item.result c.loop-found.text.items c.push_line.new.text.items
    c.loop-found-test.true c.found-item.is c.in_ok-push_line.ensures ∙ c.loop-found.invariant

pub returns : goal.returns
returns c = verdicts_end c.args.rows c.args.attacks.now c.loop-found.found-index c.loop-found.text.items c.loop-found-test.false ∙ c.loop-found.invariant
