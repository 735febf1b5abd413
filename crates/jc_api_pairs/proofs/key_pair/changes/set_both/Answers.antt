use Rattle.std.proofs.Common.{◌++◌, [], ◌∷◌, subst, sym}
use Rattle.jc_heap.specs.declared.place.Place.TheVariants.{Cell}
use Rattle.jc_heap.specs.HeapLaws.{AreLegalValues}
use Rattle.jc_heap.specs.Place.{AreApart, AreThere, places_of}
use Rattle.jc_api_pairs.specs.KeyPair.Changes.{places_in}
use Rattle.jc_api_pairs.proofs.PairPlaces.{both_apart, both_stand, count_plain, count_there}
use Rattle.jc_api_pairs.proofs.key_pair.changes.set_both.Goals as goal

pub write_two_runs-requires-clause-there : goal.write_two_runs-requires-clause-there
write_two_runs-requires-clause-there g c = subst (λ n. AreThere c.args.memory.now.heap.now ((Cell c.args.own 0, n) ∷ [])) (sym c.next_times-times.ensures)
    (count_there c.args.memory.now c.args.own c.requires.pair)

pub write_two_runs-requires-clause-plain : goal.write_two_runs-requires-clause-plain
write_two_runs-requires-clause-plain g c = count_plain c.args.memory.now c.args.own c.requires.pair

pub write_two_runs-requires-clause-apart : goal.write_two_runs-requires-clause-apart
write_two_runs-requires-clause-apart g c =
    let first = c.args.public.now in
    let second = c.args.private.now in
    subst (λ n. AreApart (places_of (places_in first.to first.bytes.now ++ (places_in second.to second.bytes.now ++ ((Cell c.args.own 0, n) ∷ [])))))
    (sym c.next_times-times.ensures) (both_apart c.args.memory.now c.args.own c.requires.pair first.to first.bytes.now (c.requires.public).elements second.to
    second.bytes.now (c.requires.private).elements c.requires.two)

pub write_two_runs-requires-clause-references : goal.write_two_runs-requires-clause-references
write_two_runs-requires-clause-references g c =
    let first = c.args.public.now in
    let second = c.args.private.now in
    subst (λ n. AreLegalValues c.args.memory.now.heap.now (places_in first.to first.bytes.now ++ (places_in second.to second.bytes.now
    ++ ((Cell c.args.own 0, n) ∷ [])))) (sym c.next_times-times.ensures) (both_stand c.args.memory.now c.args.own c.requires.pair first.to first.bytes.now
    (c.requires.public).elements second.to second.bytes.now (c.requires.private).elements c.requires.two)
