use Rattle.std.proofs.Common.{◌≡◌, ◌∙◌, ◌++◌, [], ◌∷◌, ap, sym}
use Rattle.jc_linker.proofs.Walks.{taken_next}
use Rattle.jc_linker.proofs.copies.numbers.Goals as goal

pub loop-place-preserved : goal.loop-place-preserved
loop-place-preserved c =
    let e = taken_next c.args.list.now c.loop-place.place c.get.result c.get.ensures in
    c.in_ok-push.ensures.items ∙ ap (λ xs. xs ++ c.get.result ∷ []) c.loop-place.invariant ∙ sym e
