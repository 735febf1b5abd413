-- The words of the components before the index are counted.
use Rattle.std.proofs.Common.{◌≡◌, ◌*◌, ◌≤◌, length, take}
use Rattle.jc_heap.specs.Package.{parts, components_words}
use Rattle.jc_heap.proofs.package.components_size.Given as goal

abbrev pub invariant-loop-component : goal.invariant-loop-component
invariant-loop-component l = record {
  exact : l.size ≡ length (components_words (parts (take l.component-index l.components)));
  small : l.size ≤ 40000 * l.component-index;
}
