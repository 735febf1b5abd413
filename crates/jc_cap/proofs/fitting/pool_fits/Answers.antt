use Rattle.std.proofs.Common.{sym, arith}
use Rattle.jc_cap.specs.MethodViews.{method_parts}
use Rattle.jc_cap.specs.Fitting.{entry_fits}
use Rattle.jc_cap.specs.Tables.{all_of_list}
use Rattle.jc_cap.proofs.Every.{every_goes_on, every_fails, every_ends}
use Rattle.jc_cap.proofs.fitting.pool_fits.Goals as goal

pub loop-i-preserved : goal.loop-i-preserved
loop-i-preserved c = every_goes_on (entry_fits c.args.classes.now (method_parts c.args.methods.now)) c.args.pool.now c.loop-i.i c.get-entry.result
    (all_of_list (entry_fits c.args.classes.now (method_parts c.args.methods.now)) c.args.pool.now) c.get-entry.ensures
    (sym c.if-not-entry_fits.ensures) c.loop-i.invariant

pub returns-then-not-entry_fits : goal.returns-then-not-entry_fits
returns-then-not-entry_fits c = every_fails (entry_fits c.args.classes.now (method_parts c.args.methods.now)) c.args.pool.now c.loop-i.i c.get-entry.result
    (all_of_list (entry_fits c.args.classes.now (method_parts c.args.methods.now)) c.args.pool.now) c.get-entry.ensures
    (sym c.if-not-entry_fits.ensures) c.loop-i.invariant

pub returns : goal.returns
returns c = every_ends (entry_fits c.args.classes.now (method_parts c.args.methods.now)) c.args.pool.now c.loop-i.i
    (all_of_list (entry_fits c.args.classes.now (method_parts c.args.methods.now)) c.args.pool.now)
    (omega (arith, c.loop-i-test.false, c.count-i-end.ensures)) c.loop-i.invariant
