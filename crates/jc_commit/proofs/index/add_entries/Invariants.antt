use Rattle.jc_commit.specs.EntryIndex.{IsIndexOf}
use Rattle.jc_commit.proofs.index.add_entries.Given as goal

abbrev pub invariant-loop-k : goal.invariant-loop-k
invariant-loop-k g l = IsIndexOf l.log (g.S.WordStore.words l.store) l.k l.numbers.items
