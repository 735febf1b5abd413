use Rattle.std.proofs.Common.{◌≡◌, ◌+◌, ◌*◌, true, length, take}
use Rattle.jc_commit.specs.Entries.{SameBefore}
use Rattle.jc_commit.specs.EntryIndex.{named_by, needing, with_entries}
use Rattle.jc_commit.specs.Writing.{Wrote}
use Rattle.jc_commit.proofs.keep.put_needing.Given as goal

abbrev pub invariant-loop-i : goal.invariant-loop-i
invariant-loop-i g l =
    let words = g.S.WordStore.words l.store in
    let initial = g.S.WordStore.words l.initial.store in
    let done = needing (named_by l.log initial l.first) l.born (take l.i (g.C.WordChanges.changes l.changes)) in
    record {
      k : l.k ≡ l.first + length done;
      put : words ≡ with_entries l.log initial l.first done;
      same : SameBefore l.log l.first initial words;
      wrote : Wrote g.S.WordStore.down g.S.WordStore.passed g.S.WordStore.refusals (2 * length done) true l.initial.store l.store;
    }
