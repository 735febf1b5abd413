use Rattle.std.proofs.Common.{sym, arith}
use Rattle.jc_cap.specs.ClassValues.{contents_of}
use Rattle.jc_cap.specs.MethodViews.{method_parts}
use Rattle.jc_cap.specs.Tables.{all_of_list, record_fits}
use Rattle.jc_cap.proofs.Every.{every_goes_on, every_fails, every_ends, contents-length}
use Rattle.jc_cap.proofs.tables.tables_fit.Goals as goal

pub loop-number-preserved : goal.loop-number-preserved
loop-number-preserved c = every_goes_on (record_fits (method_parts c.args.methods.now))
    (contents_of c.args.classes.now) c.loop-number.number c.get-contents.result (all_of_list (record_fits (method_parts c.args.methods.now))
    (contents_of c.args.classes.now)) c.get-contents.ensures.found (sym c.if-not-record_fits.ensures) c.loop-number.invariant

pub returns-then-not-record_fits : goal.returns-then-not-record_fits
returns-then-not-record_fits c = every_fails (record_fits (method_parts c.args.methods.now))
    (contents_of c.args.classes.now) c.loop-number.number c.get-contents.result (all_of_list (record_fits (method_parts c.args.methods.now))
    (contents_of c.args.classes.now)) c.get-contents.ensures.found (sym c.if-not-record_fits.ensures) c.loop-number.invariant

pub returns : goal.returns
returns c = every_ends (record_fits (method_parts c.args.methods.now)) (contents_of c.args.classes.now) c.loop-number.number
    (all_of_list (record_fits (method_parts c.args.methods.now)) (contents_of c.args.classes.now))
    (omega (arith, c.loop-number-test.false, c.count-number-end.ensures, contents-length c.args.classes.now)) c.loop-number.invariant
