use Rattle.std.proofs.Common.{◌-◌}
use Rattle.jc_objects.specs.Places.{IsPlaceFor}
use Rattle.jc_objects.proofs.places.standing_from.Given as goal

-- what is left of the walk has the answer
abbrev pub invariant-loop-place : goal.invariant-loop-place
invariant-loop-place g l = record { place : IsPlaceFor (g.W.ImageWords.words l.words) l.place l.address }

abbrev pub decreases-loop-place : goal.decreases-loop-place
decreases-loop-place g l = l.top - l.place
