use Rattle.std.proofs.Common.{◌+◌, arith}
use Rattle.jc_commit.proofs.Indexes.{distinct_first}
use Rattle.jc_commit.proofs.index.add_entries.Goals as goal

pub add_entry-requires-clause-distinct : goal.add_entry-requires-clause-distinct
add_entry-requires-clause-distinct g c =
    distinct_first c.args.log (g.S.WordStore.words c.args.store.now) (c.loop-k.k + 1) c.args.n (omega arith) c.requires.distinct
