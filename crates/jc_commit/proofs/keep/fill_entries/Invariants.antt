-- The words of the entries before the place stand in the room.
use Rattle.std.proofs.Common.{◌≡◌, ◌*◌, ◌++◌, take, drop}
use Rattle.jc_commit.specs.Runs.{entry_words}
use Rattle.jc_commit.proofs.keep.fill_entries.Given as goal

abbrev pub invariant-loop-k : goal.invariant-loop-k
invariant-loop-k g l = l.out ≡ entry_words (g.S.WordStore.words l.store) (take l.k l.run) ++ drop (2 * l.k) l.initial.out
