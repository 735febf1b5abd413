use Rattle.jc_curves.proofs.Places.{multiple_law}
use Rattle.jc_curves.proofs.multiples.multiple.Goals as goal

pub returns-clause-multiple : goal.returns-clause-multiple
returns-clause-multiple c =
    let of = c.sum_by_bits.ensures.multiple in
    multiple_law _ _ _ of.0 _ c.args.field.now _ c.affine.result c.requires.a.modulus.1 of.1 of.2 c.affine.ensures.point
