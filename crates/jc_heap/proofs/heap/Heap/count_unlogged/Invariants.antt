-- The words before the index are counted.
use Rattle.std.proofs.Common.{◌≡◌, ◌≤◌, length, take}
use Rattle.jc_heap.specs.Touch.{touch_words}
use Rattle.jc_heap.proofs.Costs.{staying}
use Rattle.jc_heap.proofs.heap.Heap.count_unlogged.Given as goal

abbrev pub invariant-loop-touch : goal.invariant-loop-touch
invariant-loop-touch g l = record {
  few : l.count ≤ l.touch-index;
  count : l.count ≡ length (staying l.self (touch_words l.self.now (take l.touch-index l.touches)));
}
