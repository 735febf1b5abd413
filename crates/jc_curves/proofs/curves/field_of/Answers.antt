use Rattle.jc_numbers.specs.Numbers.{value}
use Rattle.jc_curves.proofs.CurveLaws.{field_law, small_field}
use Rattle.jc_curves.proofs.curves.field_of.Goals as goal

pub returns-then-bit_length-lt3 : goal.returns-then-bit_length-lt3
returns-then-bit_length-lt3 c = small_field (value c.args.number.now.limbs) c.bit_length.result c.bit_length.ensures c.if-bit_length-lt3.true

pub returns : goal.returns
returns c =
    field_law (value c.args.number.now.limbs) c.bit_length.result c.modulus.result c.bit_length.ensures c.if-bit_length-lt3.false c.modulus.ensures
