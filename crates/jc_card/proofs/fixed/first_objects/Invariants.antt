use Rattle.std.proofs.Common.{◌≡◌, length}
use Rattle.jc_heap.specs.Heap.{IsObject}
use Rattle.jc_card.specs.Fixed.{numbered, object_number}
use Rattle.jc_card.proofs.fixed.first_objects.Given as goal

abbrev pub invariant-loop : goal.invariant-loop
invariant-loop g l = record {
  at : l.at ≡ object_number l.heap.now l.counter;
  object : (l.at ≡ 0 → ⊥) → IsObject l.heap.now l.at;
  long : length l.fixed.items ≡ l.counter;
  front : l.fixed.items ≡ numbered l.heap.now l.counter;
}
