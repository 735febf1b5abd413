use Rattle.jc_curves.proofs.Places.{sum_law}
use Rattle.jc_curves.proofs.multiples.sum.Goals as goal

pub returns-clause-sum : goal.returns-clause-sum
returns-clause-sum c =
    rw (c.in-At.is, c.in-At-right.is)
    (sum_law _ _ _ _ c.args.field.now _ _ _ c.affine.result c.requires.a.modulus.1 c.infinity.ensures.infinite c.add-start.ensures.added
    c.add.ensures.added c.affine.ensures.point)
