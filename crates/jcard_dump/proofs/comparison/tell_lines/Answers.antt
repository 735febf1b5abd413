use Rattle.std.proofs.Common.{[], inl, inr, refl}
use Rattle.jcard_texts.proofs.Known.{appends_same}
use Rattle.jcard_dump.specs.InventoryLines.{Lines}
use Rattle.jcard_dump.proofs.comparison.tell_lines.Goals as goal

pub returns-in-Ok : goal.returns-in-Ok
returns-in-Ok g c =
    let l : Lines = record { text = c.in-Ok.listing.text.items; readable = c.in-Ok.listing.readable } in
    let told = c.write_listing.ensures.0 in
    ((told.0, told.1, inl (l, c.in-Ok.ensures, told.2)), c.write_listing.ensures.1)

pub returns-in-Err : goal.returns-in-Err
returns-in-Err g c = (([], appends_same _, inr (refl, refl)), refl)
