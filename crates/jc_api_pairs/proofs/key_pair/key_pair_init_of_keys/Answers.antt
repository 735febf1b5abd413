use Rattle.std.proofs.Common.{subst, sym}
use Rattle.jc_api.specs.Pairing.{HasStateIfNew}
use Rattle.jc_api.specs.declared.pairing.NewPair.{NewPair}
use Rattle.jc_api_pairs.proofs.KeyPairClasses.{given_pair}
use Rattle.jc_api_pairs.proofs.key_pair.key_pair_init_of_keys.Goals as goal

pub make_pair-requires-clause-first : goal.make_pair-requires-clause-first
make_pair-requires-clause-first g c = subst (λ (x : NewPair). HasStateIfNew x.first)
    (given_pair c.args.args.now c.args.linked.now c.args.memory.now c.in_ok-pair.pair (sym c.in_ok-pair.ensures.pair)) tt

pub make_pair-requires-clause-second : goal.make_pair-requires-clause-second
make_pair-requires-clause-second g c = subst (λ (x : NewPair). HasStateIfNew x.second)
    (given_pair c.args.args.now c.args.linked.now c.args.memory.now c.in_ok-pair.pair (sym c.in_ok-pair.ensures.pair)) tt
