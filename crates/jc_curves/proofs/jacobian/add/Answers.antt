use Rattle.std.proofs.Common.{◌<◌, arith}
use Rattle.jc_numbers.specs.Numbers.{value}
use Rattle.jc_curves.proofs.ElementLaws.{residue_below}
use Rattle.jc_curves.proofs.Sums.{placed_adds}
use Rattle.jc_curves.proofs.jacobian.add.Goals as goal

pub returns-then-point-clause-added : goal.returns-then-point-clause-added
returns-then-point-clause-added c =
    let some : 0 < value c.args.field.now = omega (arith, c.requires.a.modulus.1) in
    placed_adds _ _ _ _ _ _ c.requires.a.modulus.1 (residue_below c.args.field.now c.args.other.now.x.limbs some)
    (residue_below c.args.field.now c.args.other.now.y.limbs some) c.if-point.true c.placed.ensures.placed
