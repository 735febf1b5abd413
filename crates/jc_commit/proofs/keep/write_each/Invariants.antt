-- The words before the place are written.
use Rattle.std.proofs.Common.{◌≡◌, true, take}
use Rattle.jc_commit.specs.Image.{with_words}
use Rattle.jc_commit.specs.Writing.{Wrote}
use Rattle.jc_commit.proofs.keep.write_each.Given as goal

abbrev pub invariant-loop-i : goal.invariant-loop-i
invariant-loop-i g l = record {
  written : g.S.WordStore.words l.store ≡ with_words (g.S.WordStore.words l.initial.store) (take l.i (g.C.WordChanges.changes l.changes));
  wrote : Wrote g.S.WordStore.down g.S.WordStore.passed g.S.WordStore.refusals l.i true l.initial.store l.store;
}
