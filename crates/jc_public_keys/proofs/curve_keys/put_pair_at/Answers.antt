use Rattle.std.proofs.Common.{◌∙◌, [], ℕ, length, ap}
use Rattle.jc_numbers.specs.Numbers.{number_of_bytes}
use Rattle.jc_public_keys.specs.CurveKeys.{pair_of, public_on}
use Rattle.jc_public_keys.specs.RandomNumbers.{random_bits}
use Rattle.jc_public_keys.proofs.KeysFound.{pair_found}
use Rattle.jc_public_keys.proofs.curve_keys.put_pair_at.Goals as goal

pub returns : goal.returns
returns c =
    let curve = c.args.curve.now in
    let size = length c.args.private.now in
    let d : ℕ → ℕ = λ bits. number_of_bytes (random_bits bits c.args.seed.now [] c.args.t) in
    pair_found size curve (d c.args.bits) c.put_private_at.new.to c.put_public_on.new.to c.put_public_on.result c.put_private_at.ensures.bytes
    (c.put_public_on.ensures ∙ ap (public_on curve) c.put_private_at.ensures.number)
    ∙ ap (λ (bits : ℕ). pair_of size curve (d bits)) c.requires.bits
