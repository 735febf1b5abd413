use Rattle.std.proofs.Common.{◌≡◌, ◌-◌, ◌∙◌, ◌++◌, [], List, ℕ, length, length-append, arith}
use Rattle.std.proofs.Math.Facts.{Fits-lt-pow}
use Rattle.jc_numbers.specs.Numbers.{number_of_bytes}
use Rattle.jc_public_keys.specs.RandomNumbers.{random_bits}
use Rattle.jc_public_keys.proofs.BytesOfNumbers.{bytes_from}
use Rattle.jc_public_keys.proofs.KeysFound.{after_zeros}
use Rattle.jc_public_keys.proofs.curve_keys.put_private_at.Goals as goal

pub returns-clause-number : goal.returns-clause-number
returns-clause-number c =
    let size = length c.args.to.now - c.div_ceil.result in
    (λ j. number_of_bytes (c.copy_from_slice.ensures.after j ++ c.put_random_bits.ensures j))
    ∙ after_zeros size 66 (random_bits c.args.bits c.args.seed.now [] c.args.t) (omega (arith, c.requires.few))

pub returns-clause-bytes : goal.returns-clause-bytes
returns-clause-bytes c =
    let size = length c.args.to.now - c.div_ceil.result in
    let to : List ℕ = c.copy_from_slice.new.self ++ c.put_random_bits.new.to in
    let is : number_of_bytes to ≡ number_of_bytes (random_bits c.args.bits c.args.seed.now [] c.args.t) =
    (λ j. number_of_bytes (c.copy_from_slice.ensures.after j ++ c.put_random_bits.ensures j))
    ∙ after_zeros size 66 (random_bits c.args.bits c.args.seed.now [] c.args.t) (omega (arith, c.requires.few)) in
    let front = c.copy_from_slice.auto.self in
    let rest = c.put_random_bits.auto.to in
    let parts = c.split_at_mut-front.ensures in
    let long : length to ≡ length c.args.to.now =
    omega (arith, length-append c.copy_from_slice.new.self c.put_random_bits.new.to, front, rest, parts.front_len, parts.back_len, c.requires.room) in
    bytes_from to (length c.args.to.now) _ (λ i. Fits-lt-pow (c.type_inv.to i)) long is
