use Rattle.std.proofs.Common.{sym}
use Rattle.jcard_outcomes.proofs.Ends.{lent_at}
use Rattle.jcard_outcomes.proofs.order.text_at.Goals as goal

pub returns : goal.returns
returns c = sym (lent_at c.args.texts.now c.args.place c.requires)
