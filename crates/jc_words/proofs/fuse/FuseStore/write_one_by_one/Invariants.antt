-- The words before the place are written.
use Rattle.std.proofs.Common.{◌≡◌, true, take}
use Rattle.jc_words.specs.WordRuns.{WroteRun, writes_passed}
use Rattle.jc_words.proofs.fuse.FuseStore.write_one_by_one.Given as goal

abbrev pub invariant-loop-k : goal.invariant-loop-k
invariant-loop-k g l = record {
  run : WroteRun (λ f. f.words) (λ f. f.down) (λ f. f.passed) (λ f. f.refusals) l.i l.run l.k true l.initial.self l.self;
  below : l.self ≡ writes_passed l.i (take l.k l.run) l.initial.self;
}
