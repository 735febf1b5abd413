use Rattle.jc_api_pairs.proofs.PairPlaces.{persistent_by_header, transient_by_header}
use Rattle.jc_api_pairs.proofs.key_pair.changes.set_keys.Goals as goal

pub set_both-requires-clause-private : goal.set_both-requires-clause-private
set_both-requires-clause-private g c =
    let change = c.args.private.now in
    persistent_by_header c.args.memory.now change.to change.bytes.now c.facts-facts.result c.requires.private c.facts-facts.ensures c.in-None.is

pub set_one_by_one-requires-clause-transient : goal.set_one_by_one-requires-clause-transient
set_one_by_one-requires-clause-transient g c =
    transient_by_header c.args.memory.now c.args.private.now.to.array c.facts-facts.result _ c.facts-facts.ensures c.in-Some.is
