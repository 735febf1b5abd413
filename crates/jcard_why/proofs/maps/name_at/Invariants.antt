use Rattle.std.proofs.Common.{◌≡◌, ◌==◌, length}
use Rattle.std.specs.List.{slice_split}
use Rattle.jcard_why.specs.Maps.{name_at, name_in}
use Rattle.jcard_why.proofs.maps.name_at.Given as goal

-- the lines so far do not name the method
abbrev pub invariant-loop-line : goal.invariant-loop-line
invariant-loop-line l = name_at l.fn.map l.fn.aid l.fn.offset ≡ name_in l.fn.aid l.fn.offset l.is_inside (slice_split (λ b. b == 10) l.rest)

abbrev pub decreases-loop-line : goal.decreases-loop-line
decreases-loop-line l = length l.rest
