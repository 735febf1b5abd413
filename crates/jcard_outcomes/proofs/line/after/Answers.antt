use Rattle.jcard_outcomes.proofs.Splits.{begins_not, other}
use Rattle.jcard_outcomes.proofs.line.after.Goals as goal

pub returns : goal.returns
returns c = λ rest e. begins_not c.args.text.now c.args.beginning.now c.split_at.result.0.now c.split_at.result.1.now rest c.split_at.ensures.front
    (other c.split_at.result.0.now c.args.beginning.now c.is_same.result c.is_same.ensures c.if-is_same.false) e
