use Rattle.std.proofs.Common.{List, ℕ}
use Rattle.std.proofs.lemmas.Option.{IfSome_then}
use Rattle.jcard_tear.proofs.OneHeaps.{gives_alike}
use Rattle.jcard_tear.proofs.last_cut.answers_by_image.Goals as goal

pub returns : goal.returns
returns c =
    let image : List ℕ = c.in_ok-image.image in
    let words : List ℕ = c.args.words.now in
    IfSome_then c.image_answers-answers.result c.image_answers-answers.ensures
    (λ answers is. gives_alike image words c.in_ok-image.ensures.0 c.in_ok-image.ensures.1 c.requires.recovered c.args.budget c.args.probe.now answers.items is)
