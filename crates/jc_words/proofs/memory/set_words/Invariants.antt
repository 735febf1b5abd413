-- The words before the place are put.
use Rattle.std.proofs.Common.{◌≡◌, take}
use Rattle.jc_words.specs.WordRuns.{with_run}
use Rattle.jc_words.proofs.memory.set_words.Given as goal

abbrev pub invariant-loop-k : goal.invariant-loop-k
invariant-loop-k l = l.words ≡ with_run l.fn.words l.first (take l.k l.run)
