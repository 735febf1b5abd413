-- The words of the arrays before the index are counted.
use Rattle.std.proofs.Common.{◌≡◌, ◌*◌, ◌≤◌, take}
use Rattle.jc_heap.specs.Package.{array_inits, arrays_size}
use Rattle.jc_heap.proofs.package.size_of_arrays.Given as goal

abbrev pub invariant-loop-array : goal.invariant-loop-array
invariant-loop-array l = record {
  exact : l.size ≡ arrays_size (array_inits (take l.array-index l.arrays));
  small : l.size ≤ 65540 * l.array-index;
}
