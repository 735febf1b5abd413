-- What is left of the walk has the answer.
use Rattle.std.proofs.Common.{◌≡◌, ◌≤◌, ◌-◌, drop, take}
use Rattle.jc_heap.specs.Walk.{records_from}
use Rattle.jc_heap.specs.Component.{part_sizes, info_span, info_of}
use Rattle.jc_heap.proofs.component.find_info.Given as goal

abbrev pub invariant-loop-at : goal.invariant-loop-at
invariant-loop-at g l = record {
  low : 1 ≤ l.at;
  high : l.at ≤ 131072;
  left : info_span (records_from part_sizes 0 l.at (drop l.at (take l.long (drop l.base l.journal.plain)))) l.tag
      ≡ info_of (take l.long (drop l.base l.journal.plain)) l.tag;
}

abbrev pub decreases-loop-at : goal.decreases-loop-at
decreases-loop-at g l = l.long - l.at
