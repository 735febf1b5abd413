use Rattle.std.proofs.Common.{ℕ, ◌≤◌, ◌∷◌, [], length, subst, sym, ◌∙◌, arith}
use Rattle.jc_heap.specs.declared.place.Place.TheVariants.{Cell}
use Rattle.jc_heap.specs.Heap.{cells}
use Rattle.jc_heap.specs.Place.{AreThere, AreApart, places_of}
use Rattle.jc_heap.specs.HeapLaws.{AreLegalValues}
use Rattle.jc_environment.specs.Pins.Updates.{changes_of_update}
use Rattle.jc_environment.proofs.PinUpdates.{ends_there, ends_plain, update_cells, update_stands, update_apart}
use Rattle.jc_environment.proofs.pins.updates.set_value.Goals as goal

pub write_bytes_and_places-requires-clause-cells : goal.write_bytes_and_places-requires-clause-cells
write_bytes_and_places-requires-clause-cells g c =
    let fits : length c.args.bytes.now ≤ length (cells c.args.memory.now.heap.now c.record-kept.result.value) =
    subst (λ p. length c.args.bytes.now ≤ length (cells c.args.memory.now.heap.now p.value)) (sym c.record-kept.ensures)
    (update_cells c.args.memory.now c.args.pin c.requires.pin c.args.bytes.now c.requires.within) in
    omega (arith, fits)

pub write_bytes_and_places-requires-clause-there : goal.write_bytes_and_places-requires-clause-there
write_bytes_and_places-requires-clause-there g c =
    subst (λ p. AreThere c.args.memory.now.heap.now ((Cell c.args.pin 3, length c.args.bytes.now) ∷ (Cell c.args.pin 2, p.limit) ∷ [])) (sym c.record-kept.ensures)
    (ends_there c.args.memory.now c.args.pin c.requires.pin (length c.args.bytes.now))

pub write_bytes_and_places-requires-clause-plain : goal.write_bytes_and_places-requires-clause-plain
write_bytes_and_places-requires-clause-plain g c = ends_plain c.args.memory.now c.args.pin c.requires.pin (length c.args.bytes.now)

pub write_bytes_and_places-requires-clause-apart : goal.write_bytes_and_places-requires-clause-apart
write_bytes_and_places-requires-clause-apart g c =
    subst (λ p. AreApart (places_of (changes_of_update p c.args.pin c.args.bytes.now))) (sym c.record-kept.ensures)
    (update_apart c.args.memory.now c.args.pin c.requires.pin c.args.bytes.now c.requires.within)

pub write_bytes_and_places-requires-clause-references : goal.write_bytes_and_places-requires-clause-references
write_bytes_and_places-requires-clause-references g c =
    subst (λ p. AreLegalValues c.args.memory.now.heap.now (changes_of_update p c.args.pin c.args.bytes.now)) (sym c.record-kept.ensures)
    (update_stands c.args.memory.now c.args.pin c.requires.pin c.args.bytes.now c.requires.within)
