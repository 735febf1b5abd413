use Rattle.std.proofs.Common.{arith}
use Rattle.jc_heap.proofs.Packing.{few_components, info_words, components-counted}
use Rattle.jc_heap.proofs.package.components_size.Goals as goal

pub overflow_cast-size : goal.overflow_cast-size
overflow_cast-size c = omega (
  arith,
  c.packed_size.ensures,
  info_words c.args.components.now c.loop-component.component-index c.requires
      c.loop-component-test.true,
)

pub overflow_add-size : goal.overflow_add-size
overflow_add-size c = omega (
  arith,
  c.packed_size.ensures,
  info_words c.args.components.now c.loop-component.component-index c.requires
      c.loop-component-test.true,
)

pub overflow_add-size-in-loop-component : goal.overflow_add-size-in-loop-component
overflow_add-size-in-loop-component c = omega (
  arith,
  c.packed_size.ensures,
  info_words c.args.components.now c.loop-component.component-index c.requires
      c.loop-component-test.true,
  few_components c.args.components.now c.requires,
)

pub loop-component-preserved : goal.loop-component-preserved
loop-component-preserved c = record {
  exact = omega (
    arith,
    c.packed_size.ensures,
    c.loop-component.invariant.exact,
    components-counted c.args.components.now c.loop-component.component-index
        c.loop-component-test.true,
  );
  small = omega (arith, c.packed_size.ensures, info_words c.args.components.now c.loop-component.component-index c.requires c.loop-component-test.true);
}

pub returns-clause-small : goal.returns-clause-small
returns-clause-small c = omega (arith, few_components c.args.components.now c.requires)
