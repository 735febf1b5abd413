use Rattle.std.proofs.Common.{List, ℕ}
use Rattle.std.proofs.lemmas.Result.{err_from_is_err_and}
use Rattle.jc_objects.proofs.HeapBounds.{bounded}
use Rattle.jcard_dump.proofs.ImageDifferences.{areas_untold, content_told, first_bounds, other_bounds}
use Rattle.jcard_dump.proofs.differences.push_differences.Goals as goal

pub push_content-requires-clause-bounds : goal.push_content-requires-clause-bounds
push_content-requires-clause-bounds g c =
    let w : List ℕ = g.S.WordStore.words c.args.store.now in
    bounded w (first_bounds w (g.S.WordStore.words c.args.other.now) _ _ c.in_ok-push_area_pair.ensures)

pub push_content-requires-clause-other_bounds : goal.push_content-requires-clause-other_bounds
push_content-requires-clause-other_bounds g c =
    let v : List ℕ = g.S.WordStore.words c.args.other.now in
    bounded v (other_bounds (g.S.WordStore.words c.args.store.now) v _ _ c.in_ok-push_area_pair.ensures)

pub returns-in_err-push_area_pair : goal.returns-in_err-push_area_pair
returns-in_err-push_area_pair g c =
    let p = err_from_is_err_and c.from_residual.result c.from_residual.ensures.1 in
    let stop = c.in_err-push_area_pair.field-0.0 in
    let w : List ℕ = g.S.WordStore.words c.args.store.now in
    let v : List ℕ = g.S.WordStore.words c.args.other.now in
    rw (p.1, p.2) (areas_untold stop w v c.args.shown _ _ c.in_err-push_area_pair.ensures)

pub returns : goal.returns
returns g c =
    let w : List ℕ = g.S.WordStore.words c.args.store.now in
    let v : List ℕ = g.S.WordStore.words c.args.other.now in
    content_told c.push_content.result w v c.args.shown _ _ _ c.in_ok-push_area_pair.ensures c.push_content.ensures
