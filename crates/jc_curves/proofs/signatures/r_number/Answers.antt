use Rattle.std.proofs.Common.{◌∙◌, ◌%◌, ℕ, sym, ap}
use Rattle.jc_numbers.specs.Numbers.{value}
use Rattle.jc_curves.specs.Elements.{residue_of}
use Rattle.std.proofs.Math.Nat.{pos_of_ne-zero}
use Rattle.jc_curves.proofs.Places.{ruled_out}
use Rattle.jc_curves.proofs.SignatureLaws.{no_coordinates, x_of_multiple}
use Rattle.jc_curves.proofs.signatures.r_number.Goals as goal

pub returns-in_default : goal.returns-in_default
returns-in_default c =
    rw (← c.curve.view_is) (λ x y has. no_coordinates _ _ _ _ c.in_default.field-0 x y c.in_default.ensures has)

pub returns-then-is_zero : goal.returns-then-is_zero
returns-then-is_zero c =
    rw (← c.curve.view_is)
    (λ u v has. ap (λ (x : ℕ). x % value c.curve.inside.order) (x_of_multiple _ _ _ _ _ _ u v c.in-Ok.ensures.1 has)
    ∙ sym c.x_in_order-r.ensures ∙ c.is_zero.ensures.0 c.if-is_zero.true)

pub returns : goal.returns
returns c =
    rw (← c.curve.view_is) (
      pos_of_ne-zero (ruled_out c.is_zero.result c.if-is_zero.false c.is_zero.ensures.1),
      residue_of c.curve.inside.field c.in-Ok.at.x.limbs,
      residue_of c.curve.inside.field c.in-Ok.at.y.limbs,
      c.in-Ok.ensures.1,
      c.x_in_order-r.ensures,
    )
