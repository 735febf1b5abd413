use Rattle.std.proofs.Common.{◌≡◌, drop}
use Rattle.jc_cap.specs.MethodViews.{method_parts}
use Rattle.jc_cap.specs.MethodReading.{has_room}
use Rattle.jc_cap.specs.Tables.{all_of_list}
use Rattle.jc_cap.proofs.fitting.all_methods.Given as goal

abbrev pub invariant-loop-i : goal.invariant-loop-i
invariant-loop-i l = all_of_list (has_room (method_parts l.methods)) (drop l.i l.offsets) ≡ all_of_list (has_room (method_parts l.methods)) l.offsets
