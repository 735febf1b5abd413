use Rattle.std.proofs.Common.{nat_eq, ap}
use Rattle.std.specs.Prelude.{◌&&◌, slice_index}
use Rattle.jc_memory.specs.Cells.{byte_at}
use Rattle.jc_environment.proofs.PinComparison.{same_more}
use Rattle.jc_environment.proofs.pins.checks.begins_with.Goals as goal

pub loop-k-preserved : goal.loop-k-preserved
loop-k-preserved g c =
    same_more (byte_at c.args.memory.now c.args.array) c.args.bytes.now c.loop-k.k c.loop-k.same
    (c.loop-k.same && nat_eq (slice_index c.args.bytes.now c.loop-k.k) c.byte.result)
    c.loop-k-test.true c.loop-k.invariant (ap (λ v. c.loop-k.same && nat_eq (slice_index c.args.bytes.now c.loop-k.k) v) c.byte.ensures)
