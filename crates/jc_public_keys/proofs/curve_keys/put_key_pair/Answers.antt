use Rattle.std.proofs.Common.{◌∙◌, ℕ, length, ap}
use Rattle.std.specs.Prelude.{option_and_then}
use Rattle.jc_public_keys.specs.CurveKeys.{key_pair_of, pair_at}
use Rattle.jc_public_keys.specs.RandomNumbers.{first_try}
use Rattle.jc_public_keys.proofs.curve_keys.put_key_pair.Goals as goal

pub returns-in-Some : goal.returns-in-Some
unfolding key_pair_of
returns-in-Some c =
    c.put_pair_on.ensures ∙ ap (λ (n : ℕ). first_try (pair_at n c.in-Some.curve c.args.seed.now)) c.requires.private
    ∙ ap (option_and_then (λ curve. first_try (pair_at (length c.args.parameters.now.order.now) curve c.args.seed.now))) c.in-Some.ensures.curve

pub returns-in-None : goal.returns-in-None
unfolding key_pair_of
returns-in-None c =
    ap (option_and_then (λ curve. first_try (pair_at (length c.args.parameters.now.order.now) curve c.args.seed.now))) c.in-None.ensures.curve
