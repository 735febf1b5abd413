use Rattle.std.proofs.Common.{◌≡◌, ◌<◌, ◌^◌, ◌%◌, ◌∙◌, ℕ, length, ap, arith, rules}
use Rattle.std.proofs.Math.Facts.{Fits-lt-pow}
use Rattle.jc_numbers.specs.Numbers.{number_of_bytes, value}
use Rattle.jc_rsa.proofs.ByteNumbers.{number_below, written}
use Rattle.jc_rsa.proofs.power.power.Goals as goal

pub returns : goal.returns
returns c =
    let modulus = c.args.modulus.now in
    let n : ℕ = number_of_bytes modulus in
    let x : ℕ = number_of_bytes c.args.message.now ^ number_of_bytes c.args.exponent.now in
    let is = c.in-Some.ensures in
    let power : value c.put_power.new.to ≡ x % n = c.put_power.ensures ∙ ap (λ (m : ℕ). x % m) is.same in
    let below : n < 256 ^ length modulus = number_below modulus (λ k. Fits-lt-pow (c.type_inv.modulus k)) in
    let room : 256 ^ length c.args.to.now ≡ 256 ^ length modulus = ap (λ (k : ℕ). 256 ^ k) c.requires.room in
    let some : 0 < n = omega (arith, is.usable.1) in
    let under : x % n < n = omega arith in
    let fits : value c.put_power.new.to < 256 ^ length c.args.to.now = omega (arith, power, under, below, room) in
    let low : number_of_bytes c.args.message.now < value c.limbs.result.now = search rules in
    let message : number_of_bytes c.args.message.now < n = omega (arith, low, ap value c.limbs.ensures, is.same) in
    (is.usable, message, written (number_of_bytes c.to_bytes.new.bytes) (value c.put_power.new.to) (length c.args.to.now) c.to_bytes.ensures fits ∙ power)
