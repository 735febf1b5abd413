-- The words before the place stand in the room.
use Rattle.std.proofs.Common.{◌≡◌, length, take}
use Rattle.jc_commit.specs.Runs.{run_words}
use Rattle.jc_heap.proofs.changes.PackedRun.fill.Given as goal

abbrev pub invariant-loop-k : goal.invariant-loop-k
invariant-loop-k l = record {
  long : length l.room ≡ length l.self;
  same : run_words l.first (take l.k l.room) ≡ take l.k l.self;
}
