use Rattle.std.proofs.Common.{◌∙◌, ap}
use Rattle.std.specs.Prelude.{option_and_then}
use Rattle.jc_numbers.specs.Numbers.{number_of_bytes}
use Rattle.jc_public_keys.specs.Ecdsa.{ecdsa_signature, signed_at}
use Rattle.jc_public_keys.specs.RandomNumbers.{first_try}
use Rattle.jc_public_keys.proofs.ecdsa.put_signature.Goals as goal

pub returns-in_default-clause-signature : goal.returns-in_default-clause-signature
unfolding ecdsa_signature
returns-in_default-clause-signature c =
    ap (option_and_then (λ curve. first_try (signed_at curve (number_of_bytes c.args.private.now) c.args.digest.now c.args.seed.now))) c.in_default.ensures.curve

pub returns-clause-signature : goal.returns-clause-signature
unfolding ecdsa_signature
returns-clause-signature c =
    c.put_first_signed.ensures.signature
    ∙ ap (option_and_then (λ curve. first_try (signed_at curve (number_of_bytes c.args.private.now) c.args.digest.now c.args.seed.now))) c.in-Some.ensures.curve
