-- What is left of the walk has the answer.
use Rattle.std.proofs.Common.{◌≡◌, ◌≤◌, ◌+◌, ◌-◌, drop, take}
use Rattle.jc_heap.specs.Walk.{records_from}
use Rattle.jc_heap.specs.Component.{part_sizes, record_parts}
use Rattle.jc_heap.specs.Statics.{image_from}
use Rattle.jc_heap.proofs.statics.find_image.Given as goal

abbrev pub invariant-loop-second : goal.invariant-loop-second
invariant-loop-second g l = record {
  low : l.base + 2 ≤ l.second;
  high : l.second ≤ 131072;
  left : image_from (records_from part_sizes 0 (l.second - (l.base + 1)) (drop (l.second - (l.base + 1)) (take l.long (drop l.base l.journal.plain))))
      ≡ image_from (record_parts (take l.long (drop l.base l.journal.plain)));
}

abbrev pub decreases-loop-second : goal.decreases-loop-second
decreases-loop-second g l = l.base + l.long - l.second
