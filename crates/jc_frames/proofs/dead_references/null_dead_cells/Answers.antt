use Rattle.std.proofs.Common.{◌≡◌, ◌∙◌, get_or, set, ap, arith, rules}
use Rattle.std.proofs.lemmas.List.Edits.{map_over_more}
use Rattle.jc_frames.specs.Cell.{without_dead}
use Rattle.jc_frames.proofs.dead_references.null_dead_cells.Goals as goal

pub loop-place-preserved : goal.loop-place-preserved
loop-place-preserved c =
    let cells = c.loop-place.cells.items in
    let at = c.loop-place.place in
    let x = c.index-as_slice-place.result in
    let read : x ≡ get_or cells at x = search rules in
    c.set.ensures ∙ ap (λ y. set cells at y) c.without_dead.ensures
    ∙ map_over_more (without_dead c.args.top) c.args.cells.now.items cells at x (omega (arith, c.loop-place-test.true, c.len-place-end.ensures.value))
    c.loop-place.invariant read
