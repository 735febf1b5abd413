use Rattle.std.proofs.Common.{◌-◌, drop}
use Rattle.jc_cap.specs.Reading.{many_at, list_or_empty, BeginsWithList}
use Rattle.jc_cap.proofs.counted.seek.Given as goal

abbrev pub invariant-loop : goal.invariant-loop
invariant-loop g l = BeginsWithList g.K.Part.at (l.fn.count - l.counter) l.rest (drop l.counter (list_or_empty (many_at g.K.Part.at l.fn.count l.fn.bytes)))
