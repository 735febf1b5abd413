use Rattle.std.proofs.Common.{◌≡◌, length, map, drop}
use Rattle.std.specs.List.{range_with_len}
use Rattle.jc_heap.specs.Heap.{cells}
use Rattle.jc_heap.specs.Packed.{packed_byte}
use Rattle.jc_packages.proofs.entries.aid_in.Given as goal

abbrev pub invariant-loop-i : goal.invariant-loop-i
invariant-loop-i g l = (l.bytes.items ≡ map (packed_byte (drop 1 (cells l.marked.now l.object))) (range_with_len 0 l.i)) × (length l.bytes.items ≡ l.i)
