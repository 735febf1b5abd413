use Rattle.std.proofs.Common.{sym}
use Rattle.jc_api_ciphers.proofs.SignatureClasses.{made_signature}
use Rattle.jc_api_ciphers.proofs.signature.signature_get_instance.Goals as goal

pub make_engine-requires-clause-state : goal.make_engine-requires-clause-state
make_engine-requires-clause-state g c = made_signature c.args.args.now c.in_ok-engine.engine (sym c.in_ok-engine.ensures.new)
