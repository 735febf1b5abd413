use Rattle.std.proofs.Common.{◌≡◌, drop}
use Rattle.jc_cap.specs.MethodViews.{method_parts}
use Rattle.jc_cap.specs.ClassValues.{contents_of}
use Rattle.jc_cap.specs.Tables.{all_of_list, record_fits}
use Rattle.jc_cap.proofs.tables.tables_fit.Given as goal

abbrev pub invariant-loop-number : goal.invariant-loop-number
invariant-loop-number l = all_of_list (record_fits (method_parts l.methods)) (drop l.number (contents_of l.classes))
    ≡ all_of_list (record_fits (method_parts l.methods)) (contents_of l.classes)
