use Rattle.std.proofs.Common.{◌≡◌, ◌∷◌, ◌/◌, ◌%◌, map, drop}
use Rattle.std.specs.List.{range_with_len}
use Rattle.jc_heap.specs.Component.{record_of}
use Rattle.jc_heap.specs.Packed.{packed_byte}
use Rattle.jc_packages.proofs.reading.read_text.Given as goal

abbrev pub invariant-loop-i : goal.invariant-loop-i
invariant-loop-i g l = l.bytes.items ≡ l.tag ∷ l.span.size / 256 ∷ l.span.size % 256
    ∷ map (packed_byte (drop l.span.at (record_of l.heap.now l.at))) (range_with_len 0 l.i)
