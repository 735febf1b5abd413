use Rattle.std.proofs.Common.{◌≡◌, ◌<◌, ◌^◌, ℕ, length, sym, subst, arith}
use Rattle.jc_numbers.specs.Inverses.{IsInverse}
use Rattle.jc_numbers.specs.Numbers.{number_of_bytes, value}
use Rattle.jc_rsa.proofs.ByteNumbers.{written}
use Rattle.jc_rsa.proofs.key_pair.put_inverse_bytes.Goals as goal

pub returns : goal.returns
returns c =
    let n : ℕ = value c.args.modulus.now in
    let a : ℕ = number_of_bytes c.args.a.now in
    let x : ℕ = value c.put_inverse-there.new.to in
    let size : ℕ = length c.args.to.now in
    let below : x < n = c.put_inverse-there.ensures.below in
    let fits : x < 256 ^ size = omega (arith, below, c.requires.fits) in
    let same : number_of_bytes c.to_bytes.new.bytes ≡ x = written (number_of_bytes c.to_bytes.new.bytes) x size c.to_bytes.ensures fits in
    let P : ℕ → Type 0 = λ v. IsInverse n a v in
    record {
      told = c.put_inverse-there.ensures.told;
      inverse = λ t. (subst P (sym same) (c.put_inverse-there.ensures.inverse t), omega (arith, same, below));
    }
