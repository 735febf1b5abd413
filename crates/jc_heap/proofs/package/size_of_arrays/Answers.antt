use Rattle.std.proofs.Common.{arith}
use Rattle.jc_heap.proofs.Packing.{values_words, arrays-counted}
use Rattle.jc_heap.proofs.package.size_of_arrays.Goals as goal

pub overflow_cast-size : goal.overflow_cast-size
overflow_cast-size c = omega (arith, c.packed_size.ensures, values_words c.args.arrays.now c.loop-array.array-index c.requires.arrays c.loop-array-test.true)

pub overflow_add-size : goal.overflow_add-size
overflow_add-size c = omega (arith, c.packed_size.ensures, values_words c.args.arrays.now c.loop-array.array-index c.requires.arrays c.loop-array-test.true)

pub overflow_add-size-in-loop-array : goal.overflow_add-size-in-loop-array
overflow_add-size-in-loop-array c = omega (
  arith,
  c.packed_size.ensures,
  values_words c.args.arrays.now c.loop-array.array-index c.requires.arrays
      c.loop-array-test.true,
)

pub loop-array-preserved : goal.loop-array-preserved
loop-array-preserved c = record {
  exact = omega (arith, c.packed_size.ensures, c.loop-array.invariant.exact, arrays-counted c.args.arrays.now c.loop-array.array-index c.loop-array-test.true);
  small = omega (arith, c.packed_size.ensures, values_words c.args.arrays.now c.loop-array.array-index c.requires.arrays c.loop-array-test.true);
}
