use Rattle.std.proofs.Common.{◌≡◌, drop, take, false}
use Rattle.jc_cap.specs.ClassReading.{is_among}
use Rattle.jc_cap.proofs.classes.index_of.Given as goal

abbrev pub invariant-loop-i : goal.invariant-loop-i
invariant-loop-i l = record {
  ahead : is_among l.offset (drop l.i l.offsets) ≡ is_among l.offset l.offsets;
  none : is_among l.offset (take l.i l.offsets) ≡ false;
}
