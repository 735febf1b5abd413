use Rattle.jcard_why.proofs.Parts.{cut_at}
use Rattle.jcard_why.proofs.named_text.split_word.Goals as goal

pub returns-clause-parts : goal.returns-clause-parts
returns-clause-parts c = cut_at _ c.args.text.now
