use Rattle.std.proofs.Common.{ℕ, subst, sym, arith}
use Rattle.jc_numbers.specs.Numbers.{IsBitLength}
use Rattle.jc_curves.proofs.Limbs.{bits_under}
use Rattle.jc_curves.proofs.curves.Curve.new.Goals as goal

pub decoded-requires-clause-size : goal.decoded-requires-clause-size
decoded-requires-clause-size c =
    omega (arith, bits_under _ c.bit_length-field_bits.result 528 c.bit_length-field_bits.ensures c.number_of-field_number.ensures.small)

pub invariant_of-result : goal.invariant_of-result
invariant_of-result c = record {
  a_is = c.in-Some-element_of_bytes.ensures.0;
  b_is = c.in-Some-element_of_bytes-2.ensures.0;
  generator_is = c.in-Some-decoded.ensures.0;
  on_curve = c.in-Some-decoded.ensures.1.on_curve;
  field_counted = subst (λ (v : ℕ). IsBitLength v c.bit_length-field_bits.result) (sym c.in-Some.ensures.1) c.bit_length-field_bits.ensures;
  field_short = bits_under _ c.bit_length-field_bits.result 528 c.bit_length-field_bits.ensures c.number_of-field_number.ensures.small;
  order_is = c.in-Some-modulus.ensures.0;
  order_few = c.in-Some-modulus.ensures.2;
  order_counted = subst (λ (v : ℕ). IsBitLength v c.bit_length.result) (sym c.in-Some-modulus.ensures.1) c.bit_length.ensures;
  order_short = bits_under _ c.bit_length.result 528 c.bit_length.ensures c.number_of-order_number.ensures.small;
}
