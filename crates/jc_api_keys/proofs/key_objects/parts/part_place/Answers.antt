use Rattle.std.proofs.Common.{◌∙◌, sym, arith}
use Rattle.jc_api_keys.proofs.PartPlaces.{within}
use Rattle.jc_api_keys.proofs.key_objects.parts.part_place.Goals as goal

pub returns-clause-within : goal.returns-clause-within
returns-clause-within c =
    let has = sym c.has_part.ensures ∙ c.if-not-has_part.false in
    let fits = within c.in-Some.pair c.in-Some-size_of.size c.args.part has in
    omega (arith, fits, c.place_of.ensures, c.room_of.ensures, c.in-Some-size_of.ensures.all)
