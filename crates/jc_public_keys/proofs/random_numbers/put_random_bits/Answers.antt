use Rattle.std.proofs.Common.{◌≡◌, ◌-◌, ◌*◌, ◌∙◌, [], ◌∷◌, ◌++◌, length, ap}
use Rattle.jc_curves.specs.Curves.{octets}
use Rattle.jc_rsa.specs.EmsaPss.{cleared}
use Rattle.jc_public_keys.specs.Random.{random_bytes}
use Rattle.jc_public_keys.specs.RandomNumbers.{random_bits}
use Rattle.jc_public_keys.proofs.random_numbers.put_random_bits.Goals as goal

pub returns : goal.returns
unfolding random_bits
returns c =
    let bytes = random_bytes (c.args.seed.now ++ c.args.t ∷ []) c.args.message.now in
    let long : length c.put_bytes.new.to ≡ octets c.args.bits = c.put_bytes.auto.to ∙ c.requires.room in
    let is : c.put_bytes.new.to ≡ bytes (octets c.args.bits) = c.put_bytes.ensures ∙ ap bytes c.requires.room in
    c.clear.ensures ∙ (λ j. cleared (8 * long j - c.args.bits) (is j))
