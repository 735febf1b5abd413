use Rattle.jc_cap.specs.Reading.{u2_at}
use Rattle.jc_cap.specs.Pool.{pool_at, entry_at}
use Rattle.jc_cap.proofs.Again.{counted_again, never_counted}
use Rattle.jc_cap.proofs.pool.ConstantPool.found_in.Goals as goal

pub invariant_of-result : goal.invariant_of-result
unfolding pool_at
invariant_of-result c = (counted_again entry_at (u2_at c.args.info.now) c.in-Ok.count c.in-Ok.bytes.now c.requires c.in-Ok.ensures).0

pub unreachable-requires : goal.unreachable-requires
unfolding pool_at
unreachable-requires c = never_counted entry_at (u2_at c.args.info.now) c.in-Err.field-0 c.requires c.in-Err.ensures

pub returns : goal.returns
unfolding pool_at
returns c = (counted_again entry_at (u2_at c.args.info.now) c.in-Ok.count c.in-Ok.bytes.now c.requires c.in-Ok.ensures).1
