use Rattle.std.proofs.Common.{◌≡◌, ◌-◌, ◌^◌, ℕ, length, ap, arith}
use Rattle.std.proofs.Math.Facts.{Fits-lt-pow}
use Rattle.jc_numbers.specs.Numbers.{number_of_bytes, value}
use Rattle.jc_rsa.proofs.ByteNumbers.{number_below}
use Rattle.jc_rsa.proofs.InverseLaws.{inverse_at, for_same_modulus}
use Rattle.jc_rsa.proofs.key_pair.put_crt_exponent.Goals as goal

pub put_inverse_bytes-requires-clause-fits : goal.put_inverse_bytes-requires-clause-fits
put_inverse_bytes-requires-clause-fits c =
    let prime = c.args.prime.now in
    let room : 256 ^ length c.args.to.now ≡ 256 ^ length prime = ap (λ (k : ℕ). 256 ^ k) c.requires.room in
    omega (arith, room, c.put_less_one.ensures, number_below prime (λ k. Fits-lt-pow (c.type_inv.prime k)))

pub returns : goal.returns
returns c =
    let p : ℕ = number_of_bytes c.args.prime.now in
    let e : ℕ = number_of_bytes c.args.exponent.now in
    let v : ℕ = value c.put_less_one.new.to in
    record {
      told = for_same_modulus v (p - 1) e c.put_inverse_bytes.result c.put_less_one.ensures c.put_inverse_bytes.ensures.told;
      inverse = λ t. inverse_at v (p - 1) e (number_of_bytes c.put_inverse_bytes.new.to) c.put_less_one.ensures (c.put_inverse_bytes.ensures.inverse t);
    }
