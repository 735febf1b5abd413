use Rattle.std.proofs.Common.{◌≡◌, ◌-◌}
use Rattle.jc_cap.specs.Reading.{many_at, rest_after}
use Rattle.jc_cap.specs.ClassReading.{super_at, is_known_class}
use Rattle.jc_cap.proofs.class_reading.after_supers.Given as goal

abbrev pub invariant-loop : goal.invariant-loop
invariant-loop l = rest_after (many_at (super_at (is_known_class l.known)) (l.count - l.counter) l.rest)
    ≡ rest_after (many_at (super_at (is_known_class l.known)) l.count l.bytes)
