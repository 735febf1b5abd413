use Rattle.std.proofs.Common.{List, ℕ, subst}
use Rattle.jcard_tear.specs.KeptCard.{HoldOneHeap}
use Rattle.jcard_tear.proofs.ImagesAtRest.{is_recovered}
use Rattle.jcard_tear.proofs.moved_image.stands_for.Goals as goal

pub returns : goal.returns
returns c = λ e. (subst (λ (w : List ℕ). HoldOneHeap w c.args.found.now) c.words.ensures.words (c.hold_one_heap.ensures e), is_recovered _ c.words.ensures.rests)
