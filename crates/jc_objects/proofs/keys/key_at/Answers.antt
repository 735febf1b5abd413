use Rattle.jc_objects.proofs.keys.key_at.Goals as goal

pub standing_from-requires-clause-place : goal.standing_from-requires-clause-place
standing_from-requires-clause-place g c = c.first_place-place.ensures c.args.address
