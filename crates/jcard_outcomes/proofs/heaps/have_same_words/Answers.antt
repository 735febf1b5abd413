use Rattle.jcard_outcomes.proofs.Blocks.{agree_between}
use Rattle.jcard_outcomes.proofs.heaps.have_same_words.Goals as goal

pub returns : goal.returns
returns c = λ same i above below. agree_between c.args.a.now c.args.b.now c.args.from c.args.to i (c.are_equal.ensures same) above below
