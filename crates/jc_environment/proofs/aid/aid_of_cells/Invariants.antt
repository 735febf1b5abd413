use Rattle.std.proofs.Common.{◌≡◌, length, map}
use Rattle.std.specs.List.{range_with_len}
use Rattle.jc_environment.specs.Aid.{aid_byte}
use Rattle.jc_environment.proofs.aid.aid_of_cells.Given as goal

abbrev pub invariant-loop-i : goal.invariant-loop-i
invariant-loop-i l = (l.bytes.items ≡ map (aid_byte l.cells) (range_with_len 0 l.i)) × (length l.bytes.items ≡ l.i)
