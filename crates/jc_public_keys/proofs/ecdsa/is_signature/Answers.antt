use Rattle.std.proofs.Common.{◌∙◌, ap}
use Rattle.jc_public_keys.specs.Ecdsa.{is_ecdsa_signature, on_curve, verified_on}
use Rattle.jc_public_keys.proofs.ecdsa.is_signature.Goals as goal

pub returns-in-Some : goal.returns-in-Some
unfolding is_ecdsa_signature
returns-in-Some c =
    c.is_signature_on.ensures ∙ ap (on_curve (verified_on c.args.public.now c.args.digest.now c.args.signature.now)) c.in-Some.ensures.curve

pub returns-in-None : goal.returns-in-None
unfolding is_ecdsa_signature
returns-in-None c = ap (on_curve (verified_on c.args.public.now c.args.digest.now c.args.signature.now)) c.in-None.ensures.curve
