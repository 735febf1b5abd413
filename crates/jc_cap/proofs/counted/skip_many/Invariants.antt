use Rattle.std.proofs.Common.{◌≡◌, ◌-◌}
use Rattle.jc_cap.specs.Reading.{many_at, rest_after}
use Rattle.jc_cap.proofs.counted.skip_many.Given as goal

abbrev pub invariant-loop : goal.invariant-loop
invariant-loop g l = rest_after (many_at g.K.Part.at (l.count - l.counter) l.rest) ≡ rest_after (many_at g.K.Part.at l.count l.bytes)
