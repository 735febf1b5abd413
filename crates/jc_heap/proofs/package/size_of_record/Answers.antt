use Rattle.std.proofs.Common.{arith}
use Rattle.jc_heap.specs.Package.{record_size}
use Rattle.jc_heap.proofs.Packing.{length-packed_words, length-array_inits}
use Rattle.jc_heap.proofs.package.size_of_record.Goals as goal

pub overflow_add-statics : goal.overflow_add-statics
overflow_add-statics c = omega (arith, length-array_inits c.args.arrays.now, length-packed_words c.args.image.now)

pub overflow_cast-result : goal.overflow_cast-result
overflow_cast-result c = omega (arith, length-array_inits c.args.arrays.now, length-packed_words c.args.image.now)

pub overflow_add-result : goal.overflow_add-result
overflow_add-result c = omega (arith, length-array_inits c.args.arrays.now, length-packed_words c.args.image.now)

pub overflow_add-result-2 : goal.overflow_add-result-2
overflow_add-result-2 c = omega (arith, length-array_inits c.args.arrays.now, length-packed_words c.args.image.now)

pub returns-clause-exact : goal.returns-clause-exact
unfolding record_size
returns-clause-exact c = omega (arith, c.components_size.ensures.exact, c.packed_size.ensures, length-array_inits c.args.arrays.now)

pub returns-clause-small : goal.returns-clause-small
returns-clause-small c = omega (arith, length-array_inits c.args.arrays.now, length-packed_words c.args.image.now)
