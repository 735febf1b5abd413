use Rattle.jc_memory.specs.Cells.{byte_at}
use Rattle.jc_api_framework.proofs.UtilCalls.Orders.{one_more}
use Rattle.jc_api_framework.proofs.util.order_of.Goals as goal

pub loop-k-preserved : goal.loop-k-preserved
loop-k-preserved g c =
    one_more (byte_at c.args.memory.now c.args.from.array) (byte_at c.args.memory.now c.args.to.array) c.args.from.start c.args.to.start c.args.from.count
    c.loop-k.k c.byte-first.result c.byte-second.result
    c.loop-k-test.true c.byte-first.ensures c.byte-second.ensures c.if-first-second.false c.if-second-first.false c.loop-k.invariant
