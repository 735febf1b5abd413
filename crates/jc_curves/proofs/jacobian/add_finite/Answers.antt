use Rattle.std.proofs.Common.{◌∙◌, ◌<◌, sym, arith}
use Rattle.jc_numbers.specs.Numbers.{value}
use Rattle.jc_curves.specs.Elements.{residue_of}
use Rattle.jc_curves.specs.PointValues.{coordinates}
use Rattle.jc_curves.proofs.ElementLaws.{residue_below}
use Rattle.jc_curves.proofs.Places.{made_infinite, ruled_out, total_law}
use Rattle.jc_curves.proofs.Sums.{IsOther, opposite_adds, other_adds, same_adds}
use Rattle.jc_curves.proofs.jacobian.add_finite.Goals as goal
use Rattle.jc_curves.proofs.jacobian.add_finite.Goals.{then-is_zero+else-is_zero-2+else-is_zero-3, else-is_zero}

pub returns-then-is_zero-2-clause-added : goal.returns-then-is_zero-2-clause-added
returns-then-is_zero-2-clause-added c =
    let some : 0 < value c.args.field.now = omega (arith, c.requires.a.modulus.1) in
    same_adds _ _ _ _ _ _ _ _ c.requires.a.modulus.1 (residue_below c.args.field.now c.args.other.now.x.limbs some)
    (residue_below c.args.field.now c.args.other.now.y.limbs some) c.requires.finite c.differences_to-by.ensures.differences
    (c.is_zero.ensures.0 c.if-is_zero.true) (c.is_zero-then-is_zero.ensures.0 c.if-is_zero-2.true) c.double.ensures.doubled

pub returns-then-is_zero-3-clause-added : goal.returns-then-is_zero-3-clause-added
returns-then-is_zero-3-clause-added c =
    let some : 0 < value c.args.field.now = omega (arith, c.requires.a.modulus.1) in
    opposite_adds _ _ _ _ _ _ _ _ c.requires.a.modulus.1 (residue_below c.args.field.now c.args.other.now.x.limbs some)
    c.requires.finite c.differences_to-by.ensures.differences (c.is_zero.ensures.0 c.if-is_zero.true)
    (ruled_out c.is_zero-then-is_zero.result c.if-is_zero-2.false c.is_zero-then-is_zero.ensures.1)
    (sym (total_law _ _ _ _ _ c.sum-other_y.ensures.sum c.sum-total.ensures.sum) ∙ c.is_zero-then-is_zero-2.ensures.0 c.if-is_zero-3.true)
    (made_infinite c.args.field.now c.args.point.now c.made_infinite.result c.made_infinite.ensures)

pub returns-clause-added : goal.returns-clause-added
returns-clause-added c =
    let field = c.args.field.now in
    let other : IsOther (value field) (coordinates field c.args.point.now) (residue_of field c.differences_to-by.result.x.limbs)
    (residue_of field c.differences_to-by.result.y.limbs) =
    elim c.if-is_zero.branch [
      | then-is_zero+else-is_zero-2+else-is_zero-3 w ↦ record {
        not_same = λ h r. ruled_out w.is_zero-then-is_zero.result w.if-is_zero-2.false w.is_zero-then-is_zero.ensures.1 r;
        not_opposite = λ h t. ruled_out w.is_zero-then-is_zero-2.result w.if-is_zero-3.false w.is_zero-then-is_zero-2.ensures.1
            (total_law _ _ _ _ _ w.sum-other_y.ensures.sum w.sum-total.ensures.sum ∙ t);
      }
      | else-is_zero w ↦ record {
        not_same = λ h r. ruled_out c.is_zero.result w.if-is_zero.false c.is_zero.ensures.1 h;
        not_opposite = λ h t. ruled_out c.is_zero.result w.if-is_zero.false c.is_zero.ensures.1 h;
      }
    ] in
    other_adds _ _ _ _ _ _ _ _ c.requires.a.modulus.1 c.requires.finite c.differences_to-by.ensures.differences other c.added.ensures.added
