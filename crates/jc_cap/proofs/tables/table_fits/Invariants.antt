use Rattle.std.proofs.Common.{◌≡◌, drop}
use Rattle.jc_cap.specs.MethodViews.{method_parts}
use Rattle.jc_cap.specs.Tables.{all_of_list, entry_fits}
use Rattle.jc_cap.proofs.tables.table_fits.Given as goal

abbrev pub invariant-loop-i : goal.invariant-loop-i
invariant-loop-i l = all_of_list (entry_fits (method_parts l.methods) l.inherits) (drop l.i l.offsets)
    ≡ all_of_list (entry_fits (method_parts l.methods) l.inherits) l.offsets
