use Rattle.std.proofs.Common.{◌∙◌, subst, sym, ap, arith}
use Rattle.std.proofs.Math.Facts.{Fits-lt-pow}
use Rattle.jc_numbers.specs.Numbers.{IsBitLength}
use Rattle.jc_curves.specs.Curves.{octets}
use Rattle.jc_public_keys.specs.CurveBytes.{bits_of}
use Rattle.jc_public_keys.proofs.BytesOfNumbers.{octets_few}
use Rattle.jc_public_keys.proofs.curve_keys.put_pair_on.Goals as goal

pub put_first_pair-requires-clause-bits : goal.put_first_pair-requires-clause-bits
put_first_pair-requires-clause-bits c = c.bits_of.ensures ∙ ap bits_of (sym c.requires.order) ∙ sym c.requires.bits

pub put_first_pair-requires-clause-room : goal.put_first_pair-requires-clause-room
put_first_pair-requires-clause-room c =
    let bits_is = c.bits_of.ensures ∙ ap bits_of (sym c.requires.order) ∙ sym c.requires.bits in
    let few = octets_few c.args.order.now c.args.curve.now.n_bits (λ i. Fits-lt-pow (c.type_inv.order i))
    (subst (λ n. IsBitLength n c.args.curve.now.n_bits) c.requires.order c.requires.counted) in
    omega (arith, ap octets bits_is, few, c.requires.private)
