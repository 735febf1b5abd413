use Rattle.std.proofs.Common.{◌≡◌, ◌<◌, ◌∙◌, ◌+◌, ◌*◌, ◌^◌, ℕ, length, ap, arith}
use Rattle.std.proofs.Math.Facts.{Fits-lt-pow}
use Rattle.jc_numbers.specs.Numbers.{number_of_bytes, value}
use Rattle.jc_rsa.proofs.ByteNumbers.{product_below, written}
use Rattle.jc_rsa.proofs.key_pair.put_modulus.Goals as goal

pub returns : goal.returns
returns c =
    let p = c.args.p.now in
    let q = c.args.q.now in
    let size : ℕ = length c.args.to.now in
    let product : value c.multiply.new.to ≡ number_of_bytes p * number_of_bytes q =
    c.multiply.ensures ∙ (λ j. c.from_bytes.ensures j * c.from_bytes-2.ensures j) in
    let below : number_of_bytes p * number_of_bytes q < 256 ^ (length p + length q) =
    product_below p q (λ k. Fits-lt-pow (c.type_inv.p k)) (λ k. Fits-lt-pow (c.type_inv.q k)) in
    let room : 256 ^ size ≡ 256 ^ (length p + length q) = ap (λ (k : ℕ). 256 ^ k) c.requires.room in
    let fits : value c.multiply.new.to < 256 ^ size = omega (arith, product, below, room) in
    written (number_of_bytes c.to_bytes.new.bytes) (value c.multiply.new.to) size c.to_bytes.ensures fits ∙ product
