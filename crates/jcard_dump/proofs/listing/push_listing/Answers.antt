use Rattle.std.proofs.Common.{subst}
use Rattle.std.proofs.lemmas.Result.{err_from_is_err_and}
use Rattle.jc_objects.proofs.HeapBounds.{bounded}
use Rattle.jcard_dump.specs.Fault.{Lists}
use Rattle.jcard_dump.specs.Image.{ListedImage}
use Rattle.jcard_dump.specs.Listing.{shown_lines}
use Rattle.jcard_dump.proofs.Listings.{areas_told, areas_untold, contents_told, table_untold}
use Rattle.jcard_dump.proofs.listing.push_listing.Goals as goal

pub new-image-requires-clause-bounds : goal.new-image-requires-clause-bounds
new-image-requires-clause-bounds g c =
    bounded (g.S.WordStore.words c.args.store.now) (areas_told (g.S.WordStore.words c.args.store.now) _ _ c.in_ok-push_areas.ensures)

pub returns-in_err-push_areas : goal.returns-in_err-push_areas
returns-in_err-push_areas g c =
    let p = err_from_is_err_and c.from_residual.result c.from_residual.ensures.1 in
    let stop = c.in_err-push_areas.field-0.0 in
    rw (p.1, p.2) (areas_untold stop (g.S.WordStore.words c.args.store.now) c.args.shown _ _ c.in_err-push_areas.ensures)

pub returns-in_err-legend : goal.returns-in_err-legend
returns-in_err-legend g c =
    let p = err_from_is_err_and c.from_residual-in_err-legend.result c.from_residual-in_err-legend.ensures.1 in
    let stop = c.in_err-legend.field-0.0 in
    rw (p.1, p.2) (table_untold stop (g.S.WordStore.words c.args.store.now) c.args.shown _ _ c.in_ok-push_areas.ensures c.in_err-legend.ensures)

pub returns : goal.returns
returns g c =
    let w = g.S.WordStore.words c.args.store.now in
    let secrets = c.args.shown.secrets in
    let old = c.push_areas.new.text.items in
    let new = c.push_image.new.text.items in
    contents_told c.push_image.result w c.args.shown c.in_ok-legend.legend _ _ _ c.in_ok-push_areas.ensures c.in_ok-legend.ensures
    (subst (λ (i : ListedImage). Lists old new (shown_lines i secrets) c.push_image.result) c.new-image.ensures c.push_image.ensures)
