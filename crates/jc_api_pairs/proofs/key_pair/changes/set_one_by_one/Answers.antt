use Rattle.std.proofs.Common.{◌++◌, List, [], ◌∷◌, ℕ, subst, sym}
use Rattle.jc_heap.specs.declared.place.Place.{Place}
use Rattle.jc_heap.specs.declared.place.Place.TheVariants.{Cell}
use Rattle.jc_heap.specs.HeapLaws.{AreLegalValues}
use Rattle.jc_heap.specs.Moves.{refusal_of_places}
use Rattle.jc_heap.specs.Place.{AreApart, AreThere, places_of}
use Rattle.jc_api_pairs.specs.KeyPair.Changes.{places_in}
use Rattle.jc_api_pairs.proofs.PairPlaces.{count_plain, count_there, elements_stay, public_apart, public_stands, transient_stays}
use Rattle.jc_api_pairs.proofs.key_pair.changes.set_one_by_one.Goals as goal

pub write_bytes_and_places-requires-clause-there : goal.write_bytes_and_places-requires-clause-there
write_bytes_and_places-requires-clause-there g c = subst (λ n. AreThere c.args.memory.now.heap.now ((Cell c.args.own 0, n) ∷ []))
    (sym c.next_times-times.ensures) (count_there c.args.memory.now c.args.own c.requires.pair)

pub write_bytes_and_places-requires-clause-plain : goal.write_bytes_and_places-requires-clause-plain
write_bytes_and_places-requires-clause-plain g c = count_plain c.args.memory.now c.args.own c.requires.pair

pub write_bytes_and_places-requires-clause-apart : goal.write_bytes_and_places-requires-clause-apart
write_bytes_and_places-requires-clause-apart g c =
    let first = c.args.public.now in
    subst (λ n. AreApart (places_of (places_in first.to first.bytes.now ++ ((Cell c.args.own 0, n) ∷ [])))) (sym c.next_times-times.ensures)
    (public_apart c.args.memory.now c.args.own c.requires.pair first.to first.bytes.now (c.requires.public).elements)

pub write_bytes_and_places-requires-clause-references : goal.write_bytes_and_places-requires-clause-references
write_bytes_and_places-requires-clause-references g c =
    let first = c.args.public.now in
    subst (λ n. AreLegalValues c.args.memory.now.heap.now (places_in first.to first.bytes.now ++ ((Cell c.args.own 0, n) ∷ []))) (sym c.next_times-times.ensures)
    (public_stands c.args.memory.now c.args.own c.requires.pair first.to first.bytes.now (c.requires.public).elements)

pub set_transient-requires-clause-change : goal.set_transient-requires-clause-change
set_transient-requires-clause-change g c =
    let first = c.args.public.now in
    let changes : List (Place × ℕ) = places_in first.to first.bytes.now ++ ((Cell c.args.own 0, c.next_times-times.result) ∷ []) in
    elements_stay (refusal_of_places c.args.memory.now.heap (places_of changes)) c.args.memory.now c.write_bytes_and_places.new.self changes
    c.in_ok-write_bytes_and_places.ensures c.args.private.now.to c.args.private.now.bytes.now c.requires.private

pub set_transient-requires-clause-transient : goal.set_transient-requires-clause-transient
set_transient-requires-clause-transient g c =
    let first = c.args.public.now in
    let changes : List (Place × ℕ) = places_in first.to first.bytes.now ++ ((Cell c.args.own 0, c.next_times-times.result) ∷ []) in
    transient_stays (refusal_of_places c.args.memory.now.heap (places_of changes)) c.args.memory.now c.write_bytes_and_places.new.self changes
    c.in_ok-write_bytes_and_places.ensures c.args.private.now.to.array c.requires.transient
