use Rattle.jc_cap.specs.Reading.{u1_at}
use Rattle.jc_cap.specs.Exports.{exports_at, exported_class_at}
use Rattle.jc_cap.proofs.Again.{counted_again, never_counted}
use Rattle.jc_cap.proofs.exports.Exports.found_in.Goals as goal

pub invariant_of-result : goal.invariant_of-result
unfolding exports_at
invariant_of-result c = (counted_again exported_class_at (u1_at c.args.info.now) c.in-Ok.count c.in-Ok.bytes.now c.requires c.in-Ok.ensures).0

pub unreachable-requires : goal.unreachable-requires
unfolding exports_at
unreachable-requires c = never_counted exported_class_at (u1_at c.args.info.now) c.in-Err.field-0 c.requires c.in-Err.ensures

pub returns : goal.returns
unfolding exports_at
returns c = (counted_again exported_class_at (u1_at c.args.info.now) c.in-Ok.count c.in-Ok.bytes.now c.requires c.in-Ok.ensures).1
