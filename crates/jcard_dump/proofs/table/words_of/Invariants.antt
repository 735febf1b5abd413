use Rattle.std.proofs.Common.{◌≡◌, take}
use Rattle.jcard_dump.proofs.table.words_of.Given as goal

abbrev pub invariant-loop-i : goal.invariant-loop-i
invariant-loop-i g l = l.words.items ≡ take l.i (g.S.WordStore.words l.store)
