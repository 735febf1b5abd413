use Rattle.std.proofs.Common.{◌≡◌, map, take}
use Rattle.std.specs.List.{range_with_len}
use Rattle.jc_transient.specs.State.{cell_at}
use Rattle.jc_memory.specs.Cells.{word_of}
use Rattle.jc_memory.proofs.bytes.area_words.Given as goal

abbrev pub invariant-loop-k : goal.invariant-loop-k
invariant-loop-k l = take l.k l.out ≡ map (λ k. word_of (cell_at l.ram l.event k)) (range_with_len l.place l.k)
