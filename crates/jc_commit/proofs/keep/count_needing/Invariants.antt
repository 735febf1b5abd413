use Rattle.std.proofs.Common.{◌≡◌, ◌≤◌, length, take}
use Rattle.jc_commit.specs.EntryIndex.{named_by, needing}
use Rattle.jc_commit.proofs.keep.count_needing.Given as goal

abbrev pub invariant-loop-i : goal.invariant-loop-i
invariant-loop-i g l = record {
  few : l.needed ≤ l.i;
  count : l.needed ≡ length (needing (named_by l.log (g.S.WordStore.words l.store) l.n) l.born (take l.i (g.C.WordChanges.changes l.changes)));
}
