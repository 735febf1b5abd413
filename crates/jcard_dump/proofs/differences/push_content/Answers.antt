use Rattle.std.proofs.Common.{List, ℕ, Some, subst, sym}
use Rattle.jcard_dump.specs.Differences.{IsContentTold}
use Rattle.jcard_dump.specs.Image.{ListedImage}
use Rattle.jcard_dump.specs.Listing.{IsLegendOf}
use Rattle.jcard_dump.specs.declared.shown.Shown.{Shown}
use Rattle.jcard_dump.proofs.ImageDifferences.{no_table}
use Rattle.jcard_dump.proofs.differences.push_content.Goals as goal

pub push_beside_image-requires-clause-legend : goal.push_beside_image-requires-clause-legend
push_beside_image-requires-clause-legend g c = subst (λ (i : ListedImage). IsLegendOf i.words (Some i.legend)) (sym c.new-image.ensures) c.in-Ok.ensures

pub returns-in-Ok : goal.returns-in-Ok
returns-in-Ok g c =
    let v : List ℕ = g.S.WordStore.words c.args.other.now in
    let old = c.args.text.now.items in
    let new = c.push_beside_image.new.text.items in
    subst (λ (i : ListedImage). let shown : Shown = record { all = i.all; secrets = c.args.shown.secrets } in
    IsContentTold i.words v shown old new c.push_beside_image.result) c.new-image.ensures c.push_beside_image.ensures

pub returns-in-Err : goal.returns-in-Err
returns-in-Err g c =
    let w : List ℕ = g.S.WordStore.words c.args.store.now in
    let v : List ℕ = g.S.WordStore.words c.args.other.now in
    no_table c.in-Err.fault c.push_no_table.result w v c.args.shown _ _ c.in-Err.ensures c.push_no_table.ensures.told c.push_no_table.ensures.memory
