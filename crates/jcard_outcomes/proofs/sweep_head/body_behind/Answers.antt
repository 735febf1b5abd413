use Rattle.jcard_outcomes.proofs.PartHeads.{head_unique}
use Rattle.jcard_outcomes.proofs.Splits.{other}
use Rattle.jcard_outcomes.proofs.sweep_head.body_behind.Goals as goal

pub returns : goal.returns
returns c = λ body e. other c.in-Some.named.now c.args.name.now c.is_same.result c.is_same.ensures c.if-is_same.false
    (head_unique c.args.text.now c.in-Some.named.now c.args.name.now c.in-Some.body.now body c.in-Some.ensures (e, c.requires)).0
