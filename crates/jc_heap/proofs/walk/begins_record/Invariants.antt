-- What is left of the walk has the answer, and it is whole.
use Rattle.std.proofs.Common.{◌≡◌, ◌≤◌, ◌-◌, drop}
use Rattle.jc_words.specs.Layout.{text_start}
use Rattle.jc_heap.specs.Walk.{records_from, missing_words, has_entry}
use Rattle.jc_heap.specs.Image.{image, package_addresses, sizes}
use Rattle.jc_heap.proofs.walk.begins_record.Given as goal

abbrev pub invariant-loop-at : goal.invariant-loop-at
invariant-loop-at g l = record {
  low : text_start ≤ l.at;
  high : l.at ≤ l.top;
  whole : missing_words (sizes (package_addresses (image l.journal.plain))) 0 l.at (drop l.at (image l.journal.plain)) ≡ 0;
  left : has_entry (records_from (sizes (package_addresses (image l.journal.plain))) 0 l.at (drop l.at (image l.journal.plain))) l.address
      ≡ has_entry (records_from (sizes (package_addresses (image l.journal.plain))) 0 l.from (drop l.from (image l.journal.plain))) l.address;
}

abbrev pub decreases-loop-at : goal.decreases-loop-at
decreases-loop-at g l = l.top - l.at
