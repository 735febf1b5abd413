use Rattle.std.proofs.Common.{sym}
use Rattle.jc_api_pairs.proofs.KeyAgreementClasses.{made_agreement}
use Rattle.jc_api_pairs.proofs.key_agreement.key_agreement_get_instance.Goals as goal

pub make_engine-requires-clause-state : goal.make_engine-requires-clause-state
make_engine-requires-clause-state g c = made_agreement c.args.args.now c.in_ok-engine.engine (sym c.in_ok-engine.ensures.new)
