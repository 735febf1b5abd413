use Rattle.std.proofs.Common.{sym}
use Rattle.jc_api_pairs.proofs.KeyPairClasses.{first_state, made_pair, second_state}
use Rattle.jc_api_pairs.proofs.key_pair.key_pair_init.Goals as goal

pub make_pair-requires-clause-first : goal.make_pair-requires-clause-first
make_pair-requires-clause-first g c =
    first_state c.in_ok-pair.pair (made_pair c.args.args.now c.args.linked.now c.args.memory.now c.in_ok-pair.pair (sym c.in_ok-pair.ensures.pair))

pub make_pair-requires-clause-second : goal.make_pair-requires-clause-second
make_pair-requires-clause-second g c =
    second_state c.in_ok-pair.pair (made_pair c.args.args.now c.args.linked.now c.args.memory.now c.in_ok-pair.pair (sym c.in_ok-pair.ensures.pair))
