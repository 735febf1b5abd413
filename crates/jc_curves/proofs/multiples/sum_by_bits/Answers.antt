use Rattle.std.proofs.Common.{arith}
use Rattle.jc_numbers.specs.Numbers.{value}
use Rattle.jc_curves.specs.Elements.{residue_of}
use Rattle.jc_curves.specs.PointValues.{coordinates, point_at}
use Rattle.jc_curves.proofs.BinaryMethod.{all_taken, next_taken, start_taken}
use Rattle.jc_curves.proofs.multiples.sum_by_bits.Goals as goal

pub bits-init : goal.bits-init
bits-init c =
    let field = c.args.field.now in (
      c.infinity-sum.ensures.elements,
      start_taken (value field) (residue_of field c.args.a.now.limbs) (value c.args.scalar.now) c.bit_length-count.result
          (point_at field c.args.point.now) (coordinates field c.infinity-sum.result) c.requires.a.modulus.1 c.infinity-sum.ensures.infinite,
    )

pub bits-preserved : goal.bits-preserved
bits-preserved c =
    let field = c.args.field.now in (
      c.take_bit-sum.ensures.elements,
      next_taken (value field) (residue_of field c.args.a.now.limbs) (value c.args.scalar.now) c.bit_length-count.result c.bits.i
          (point_at field c.args.point.now) (coordinates field c.bits.sum) (coordinates field c.take_bit-sum.result) c.bit.result
          (omega arith) (omega arith) c.bit.ensures c.bits.invariant.1 c.take_bit-sum.ensures.bit,
    )

pub returns-clause-multiple : goal.returns-clause-multiple
returns-clause-multiple c =
    let field = c.args.field.now in (
      c.bit_length-count.result,
      c.bit_length-count.ensures,
      all_taken (value field) (residue_of field c.args.a.now.limbs) (value c.args.scalar.now) c.bit_length-count.result c.bits.i
          (point_at field c.args.point.now) (coordinates field c.bits.sum) (omega arith) c.bits.invariant.1,
    )
