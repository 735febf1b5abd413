use Rattle.std.proofs.lemmas.Option.{IfSome_then}
use Rattle.jcard_tear.proofs.answers.image_answers.Goals as goal

pub returns : goal.returns
returns c = IfSome_then c.probed.result c.probed.ensures (λ answers is. (c.in_ok-card.card, c.in_ok-card.ensures, is.0, is.1))
