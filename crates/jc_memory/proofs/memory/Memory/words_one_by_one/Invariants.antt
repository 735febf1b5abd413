use Rattle.std.proofs.Common.{◌≡◌, take}
use Rattle.jc_memory.specs.Cells.{words_at}
use Rattle.jc_memory.proofs.memory.Memory.words_one_by_one.Given as goal

abbrev pub invariant-loop-k : goal.invariant-loop-k
invariant-loop-k g l = take l.k l.out ≡ words_at l.self l.object l.i l.k
