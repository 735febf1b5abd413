use Rattle.std.proofs.Common.{◌≡◌, ◌∙◌, ◌<◌, ◌%◌, ◌^◌, ℕ, length, arith}
use Rattle.jc_numbers.specs.Numbers.{value}
use Rattle.jc_curves.proofs.ElementLaws.{residue_below}
use Rattle.jc_curves.proofs.PointBytes.{encoded_law, first_part, second_part, whole_number, written_law}
use Rattle.jc_curves.proofs.encodings.encode.Goals as goal

pub returns : goal.returns
returns c =
    let field = c.args.field.now in
    let to = c.args.to.now in
    let size : ℕ = c.args.size in
    let some : 0 < value field = omega (arith, c.requires.point.x.modulus.1) in
    let first = first_part to size c.requires.to in
    let long_x : length c.write.new.to ≡ size = c.write.auto.to ∙ first in
    let second = second_part to c.write.new.to size c.requires.to long_x in
    let long_y : length c.write-2.new.to ≡ size = c.write-2.auto.to ∙ second in
    encoded_law _ c.write.new.to c.write-2.new.to size _ _ (written_law to c.write.new.to c.write-2.new.to size (omega (arith, c.requires.to)) long_x)
    long_x long_y
    (whole_number _ _ (value field) size (c.write.ensures ∙ (λ i. c.residue.ensures.value i % 256 ^ first i))
    (residue_below field c.args.point.now.x.limbs some) c.requires.fits)
    (whole_number _ _ (value field) size (c.write-2.ensures ∙ (λ i. c.residue-2.ensures.value i % 256 ^ second i))
    (residue_below field c.args.point.now.y.limbs some) c.requires.fits)
