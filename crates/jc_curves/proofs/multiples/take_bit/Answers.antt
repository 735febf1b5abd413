use Rattle.std.proofs.Common.{◌≡◌, ℕ, subst, sym, arith}
use Rattle.jc_numbers.specs.Numbers.{value}
use Rattle.jc_curves.specs.Elements.{residue_of}
use Rattle.jc_curves.specs.PointValues.{TakesBit, coordinates, point_at}
use Rattle.jc_curves.proofs.BinaryMethod.{takes_one, takes_zero}
use Rattle.jc_curves.proofs.multiples.take_bit.Goals as goal

pub returns-then-bit-eq0-clause-bit : goal.returns-then-bit-eq0-clause-bit
returns-then-bit-eq0-clause-bit c =
    let field = c.args.field.now in
    subst (λ (bit : ℕ). TakesBit (value field) (residue_of field c.args.a.now.limbs) (coordinates field c.args.sum.now) bit
    (point_at field c.args.point.now) (coordinates field c.double-twice.result))
    (sym c.if-bit-eq0.true) (takes_zero _ _ _ _ _ c.double-twice.ensures.doubled)

pub returns-clause-bit : goal.returns-clause-bit
returns-clause-bit c =
    let field = c.args.field.now in
    let one : 1 ≡ c.args.bit = omega arith in
    subst (λ (bit : ℕ). TakesBit (value field) (residue_of field c.args.a.now.limbs) (coordinates field c.args.sum.now) bit
    (point_at field c.args.point.now) (coordinates field c.add.result))
    one (takes_one _ _ _ _ _ _ c.double-twice.ensures.doubled c.add.ensures.added)
