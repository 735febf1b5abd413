use Rattle.std.proofs.Common.{◌≡◌, drop}
use Rattle.jc_cap.specs.MethodViews.{method_parts}
use Rattle.jc_cap.specs.Fitting.{entry_fits}
use Rattle.jc_cap.specs.Tables.{all_of_list}
use Rattle.jc_cap.proofs.fitting.pool_fits.Given as goal

abbrev pub invariant-loop-i : goal.invariant-loop-i
invariant-loop-i l = all_of_list (entry_fits l.classes (method_parts l.methods)) (drop l.i l.pool)
    ≡ all_of_list (entry_fits l.classes (method_parts l.methods)) l.pool
