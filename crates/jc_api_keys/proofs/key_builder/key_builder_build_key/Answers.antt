use Rattle.std.proofs.Common.{sym}
use Rattle.jc_api_keys.proofs.KeyClasses.{made_key}
use Rattle.jc_api_keys.proofs.key_builder.key_builder_build_key.Goals as goal

pub make_engine-requires-clause-state : goal.make_engine-requires-clause-state
make_engine-requires-clause-state g c = made_key c.args.args.now c.args.linked.now c.args.memory.now c.in_ok-key.key (sym c.in_ok-key.ensures.new)
