use Rattle.std.proofs.Common.{arith}
use Rattle.jc_cap.proofs.ArraySizes.{walks_first, walks_on, walks_never, walks_to_end, array_long}
use Rattle.jc_cap.specs.StaticViews.{static_array}
use Rattle.jc_cap.proofs.static_arrays.size_of_all.Goals as goal

pub loop-init : goal.loop-init
loop-init c = walks_first c.args.count c.args.bytes.now c.requires

pub unreachable-requires : goal.unreachable-requires
unreachable-requires c = walks_never c.args.count c.loop.counter c.args.bytes.now c.loop.rest.now c.loop.size c.in-Err.field-0 c.loop-test.true c.loop.invariant
    c.in-Err.ensures.read

pub overflow_add-size : goal.overflow_add-size
overflow_add-size c = omega (arith, c.loop.invariant.room, array_long c.loop.rest.now c.in-Ok.next.now (static_array c.in-Ok.array) c.in-Ok.ensures.read)

pub loop-preserved : goal.loop-preserved
loop-preserved c = walks_on c.args.count c.loop.counter c.args.bytes.now c.loop.rest.now c.in-Ok.next.now c.loop.size
    (static_array c.in-Ok.array) c.requires c.loop-test.true c.loop.invariant c.in-Ok.ensures.read

pub returns : goal.returns
returns c = walks_to_end c.args.count c.loop.counter c.args.bytes.now c.loop.rest.now c.loop.size c.requires c.loop-test.false c.loop.invariant
