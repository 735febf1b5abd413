use Rattle.std.proofs.Common.{◌≡◌, ◌<◌, ◌∙◌, ◌+◌, ◌-◌, ◌*◌, ◌^◌, ℕ, length, ap, arith}
use Rattle.std.proofs.Math.Facts.{Fits-lt-pow}
use Rattle.jc_numbers.specs.Numbers.{number_of_bytes, value}
use Rattle.jc_rsa.proofs.ByteNumbers.{less_product_above, less_product_below}
use Rattle.jc_rsa.proofs.InverseLaws.{inverse_at, for_same_modulus}
use Rattle.jc_rsa.proofs.key_pair.put_private_exponent.Goals as goal

pub put_inverse_bytes-requires-clause-modulus : goal.put_inverse_bytes-requires-clause-modulus
put_inverse_bytes-requires-clause-modulus c =
    let p : ℕ = number_of_bytes c.args.p.now in
    let q : ℕ = number_of_bytes c.args.q.now in
    let product : value c.multiply.new.to ≡ (p - 1) * (q - 1) = c.multiply.ensures ∙ (λ j. c.put_less_one.ensures j * c.put_less_one-2.ensures j) in
    omega (arith, product, less_product_above p q c.requires.p.1 c.requires.q.1)

pub put_inverse_bytes-requires-clause-fits : goal.put_inverse_bytes-requires-clause-fits
put_inverse_bytes-requires-clause-fits c =
    let p = c.args.p.now in
    let q = c.args.q.now in
    let size : ℕ = length c.args.to.now in
    let product : value c.multiply.new.to ≡ (number_of_bytes p - 1) * (number_of_bytes q - 1) =
    c.multiply.ensures ∙ (λ j. c.put_less_one.ensures j * c.put_less_one-2.ensures j) in
    let room : 256 ^ size ≡ 256 ^ (length p + length q) = ap (λ (k : ℕ). 256 ^ k) c.requires.room in
    let below : (number_of_bytes p - 1) * (number_of_bytes q - 1) < 256 ^ (length p + length q) =
    less_product_below p q (λ k. Fits-lt-pow (c.type_inv.p k)) (λ k. Fits-lt-pow (c.type_inv.q k)) in
    omega (arith, product, room, below)

pub returns : goal.returns
returns c =
    let p : ℕ = number_of_bytes c.args.p.now in
    let q : ℕ = number_of_bytes c.args.q.now in
    let e : ℕ = number_of_bytes c.args.exponent.now in
    let v : ℕ = value c.multiply.new.to in
    let product : v ≡ (p - 1) * (q - 1) = c.multiply.ensures ∙ (λ j. c.put_less_one.ensures j * c.put_less_one-2.ensures j) in
    record {
      told = for_same_modulus v ((p - 1) * (q - 1)) e c.put_inverse_bytes.result product c.put_inverse_bytes.ensures.told;
      inverse = λ t. inverse_at v ((p - 1) * (q - 1)) e (number_of_bytes c.put_inverse_bytes.new.to) product (c.put_inverse_bytes.ensures.inverse t);
    }
