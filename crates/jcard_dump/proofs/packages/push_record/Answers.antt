use Rattle.std.proofs.Common.{refl, subst, List, ℕ}
use Rattle.std.specs.Prelude.{codes}
use Rattle.jc_objects.specs.Legend.{static_references}
use Rattle.jc_objects.specs.Records.{record_words}
use Rattle.jcard_dump.specs.InventoryLines.{line}
use Rattle.jcard_dump.specs.Fault.{Lists}
use Rattle.jcard_dump.specs.Packages.{ended, head_text, parts_lines}
use Rattle.jcard_dump.proofs.LineLists.{lists_ended, lists_then}
use Rattle.jcard_dump.proofs.packages.push_record.Goals as goal

pub returns : goal.returns
returns g c =
    let words : List ℕ = record_words (g.S.WordStore.words c.args.store.now) c.args.found.at in
    let head = line (head_text c.args.number c.args.found) in
    let parts = parts_lines (static_references c.args.legend.now c.args.number) words in
    let r = c.push_parts-told.result in
    let told = subst (λ (n : ℕ). Lists c.push_head.new.text.items c.push_parts-told.new.text.items (parts_lines n words) r) c.static_references.ensures
    c.push_parts-told.ensures in
    lists_then r _ _ _ head (ended parts) (refl, c.in_ok-push_head.ensures)
    (lists_ended r _ _ _ (codes "\n") parts told c.in_ok-extend_from_slice.ensures.items)
