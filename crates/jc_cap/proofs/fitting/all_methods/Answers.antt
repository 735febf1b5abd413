use Rattle.std.proofs.Common.{sym, arith}
use Rattle.jc_cap.specs.MethodViews.{method_parts}
use Rattle.jc_cap.specs.MethodReading.{has_room}
use Rattle.jc_cap.specs.Tables.{all_of_list}
use Rattle.jc_cap.proofs.Every.{every_goes_on, every_fails, every_ends}
use Rattle.jc_cap.proofs.fitting.all_methods.Goals as goal

pub loop-i-preserved : goal.loop-i-preserved
loop-i-preserved c = every_goes_on (has_room (method_parts c.args.methods.now)) c.args.offsets.now c.loop-i.i c.get-offset.result
    (all_of_list (has_room (method_parts c.args.methods.now)) c.args.offsets.now) c.get-offset.ensures (sym c.if-not-has_room.ensures) c.loop-i.invariant

pub returns-then-not-has_room : goal.returns-then-not-has_room
returns-then-not-has_room c = every_fails (has_room (method_parts c.args.methods.now)) c.args.offsets.now c.loop-i.i c.get-offset.result
    (all_of_list (has_room (method_parts c.args.methods.now)) c.args.offsets.now) c.get-offset.ensures (sym c.if-not-has_room.ensures) c.loop-i.invariant

pub returns : goal.returns
returns c = every_ends (has_room (method_parts c.args.methods.now)) c.args.offsets.now c.loop-i.i
    (all_of_list (has_room (method_parts c.args.methods.now)) c.args.offsets.now) (omega (arith, c.loop-i-test.false, c.count-i-end.ensures)) c.loop-i.invariant
