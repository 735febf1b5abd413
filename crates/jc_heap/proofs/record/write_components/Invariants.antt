-- The components before the index are written.
use Rattle.std.proofs.Common.{◌≡◌, ◌+◌, take, length}
use Rattle.jc_heap.specs.Fresh.{KeepsBelow, Fills}
use Rattle.jc_heap.specs.Package.{parts, components_words}
use Rattle.jc_heap.proofs.record.write_components.Given as goal

abbrev pub invariant-loop-component : goal.invariant-loop-component
invariant-loop-component g l = record {
  behind : l.next ≡ l.at + length (components_words (parts (take l.component-index l.components)));
  below : KeepsBelow l.at l.fn.journal l.journal;
  done : Fills l.at (components_words (parts (take l.component-index l.components))) l.fn.journal l.journal;
}
