use Rattle.std.proofs.Common.{◌≡◌, ◌+◌, ◌-◌}
use Rattle.jc_memory.specs.Cells.{byte_at}
use Rattle.jc_api_framework.proofs.UtilCalls.Orders.{order_from}
use Rattle.jc_api_framework.proofs.util.order_of.Given as goal

abbrev pub invariant-loop-k : goal.invariant-loop-k
invariant-loop-k g l =
    order_from (byte_at l.memory l.from.array) (byte_at l.memory l.fn.to.array) l.from.start l.fn.to.start l.from.count
    ≡ order_from (byte_at l.memory l.from.array) (byte_at l.memory l.fn.to.array) (l.from.start + l.k) (l.fn.to.start + l.k) (l.from.count - l.k)
