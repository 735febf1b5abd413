use Rattle.jcard_attack.proofs.KindLists.{seconds_next, seconds_none}
use Rattle.jcard_attack.proofs.models.push_seconds.Goals as goal

pub loop-before-init : goal.loop-before-init
loop-before-init c = seconds_none c.args.kind c.args.models.now c.args.kinds.now.items

pub loop-before-preserved : goal.loop-before-preserved
loop-before-preserved c = seconds_next c.args.kind c.args.models.now c.loop-before.before c.args.kinds.now.items c.loop-before.kinds.items
    c.push_seconds_at.new.kinds.items c.loop-before.invariant c.in_ok-push_seconds_at.ensures
