use Rattle.std.proofs.Common.{sym, arith}
use Rattle.jc_cap.specs.MethodViews.{method_parts}
use Rattle.jc_cap.specs.Tables.{all_of_list, entry_fits}
use Rattle.jc_cap.proofs.Every.{every_goes_on, every_fails, every_ends}
use Rattle.jc_cap.proofs.tables.table_fits.Goals as goal

pub loop-i-preserved : goal.loop-i-preserved
loop-i-preserved c = every_goes_on (entry_fits (method_parts c.args.methods.now) c.args.inherits) c.args.offsets.now c.loop-i.i c.get-offset.result
    (all_of_list (entry_fits (method_parts c.args.methods.now) c.args.inherits) c.args.offsets.now) c.get-offset.ensures
    (sym c.if-not-entry_fits.ensures) c.loop-i.invariant

pub returns-then-not-entry_fits : goal.returns-then-not-entry_fits
returns-then-not-entry_fits c = every_fails (entry_fits (method_parts c.args.methods.now) c.args.inherits) c.args.offsets.now c.loop-i.i c.get-offset.result
    (all_of_list (entry_fits (method_parts c.args.methods.now) c.args.inherits) c.args.offsets.now) c.get-offset.ensures
    (sym c.if-not-entry_fits.ensures) c.loop-i.invariant

pub returns : goal.returns
returns c = every_ends (entry_fits (method_parts c.args.methods.now) c.args.inherits) c.args.offsets.now c.loop-i.i
    (all_of_list (entry_fits (method_parts c.args.methods.now) c.args.inherits) c.args.offsets.now)
    (omega (arith, c.loop-i-test.false, c.count-i-end.ensures)) c.loop-i.invariant
