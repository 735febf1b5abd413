use Rattle.std.proofs.Common.{◌∙◌, ◌<◌, ◌%◌, ◌^◌, ℕ, length, ap, arith}
use Rattle.jc_numbers.specs.Numbers.{value}
use Rattle.jc_curves.specs.Elements.{residue_of}
use Rattle.jc_curves.proofs.ElementLaws.{residue_below}
use Rattle.jc_curves.proofs.PointBytes.{whole_number}
use Rattle.jc_curves.proofs.agreement.write_x.Goals as goal

pub returns : goal.returns
returns c =
    let field = c.args.field.now in
    let x : ℕ = residue_of field c.in_ok-at.at.x.limbs in
    let below : x < value field = residue_below field c.in_ok-at.at.x.limbs (omega (arith, c.requires.a.modulus.1)) in (
      x,
      residue_of field c.in_ok-at.at.y.limbs,
      c.in_ok-at.ensures.1,
      whole_number _ x (value field) (length c.args.to.now) (c.write.ensures ∙ ap (λ (v : ℕ). v % 256 ^ length c.args.to.now) c.residue.ensures.value)
          below c.requires.fits,
    )
