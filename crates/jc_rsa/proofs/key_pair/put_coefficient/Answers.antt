use Rattle.std.proofs.Common.{◌≡◌, ◌^◌, ℕ, length, ap, arith}
use Rattle.std.proofs.Math.Facts.{Fits-lt-pow}
use Rattle.jc_numbers.specs.Numbers.{number_of_bytes, value}
use Rattle.jc_rsa.proofs.ByteNumbers.{number_below}
use Rattle.jc_rsa.proofs.InverseLaws.{inverse_at, for_same_modulus}
use Rattle.jc_rsa.proofs.key_pair.put_coefficient.Goals as goal

pub put_inverse_bytes-requires-clause-fits : goal.put_inverse_bytes-requires-clause-fits
put_inverse_bytes-requires-clause-fits c =
    let p = c.args.p.now in
    let room : 256 ^ length c.args.to.now ≡ 256 ^ length p = ap (λ (k : ℕ). 256 ^ k) c.requires.room in
    omega (arith, room, c.from_bytes.ensures, number_below p (λ k. Fits-lt-pow (c.type_inv.p k)))

pub returns : goal.returns
returns c =
    let p : ℕ = number_of_bytes c.args.p.now in
    let q : ℕ = number_of_bytes c.args.q.now in
    let v : ℕ = value c.from_bytes.new.to in
    record {
      told = for_same_modulus v p q c.put_inverse_bytes.result c.from_bytes.ensures c.put_inverse_bytes.ensures.told;
      inverse = λ t. inverse_at v p q (number_of_bytes c.put_inverse_bytes.new.to) c.from_bytes.ensures (c.put_inverse_bytes.ensures.inverse t);
    }
