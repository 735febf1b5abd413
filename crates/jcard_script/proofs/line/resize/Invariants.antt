-- There are as many as the index.
use Rattle.std.proofs.Common.{◌≡◌, length}
use Rattle.jcard_script.proofs.line.resize.Given as goal

abbrev pub invariant-loop-k : goal.invariant-loop-k
invariant-loop-k l = length l.room.items ≡ l._k
