use Rattle.std.proofs.Common.{length}
use Rattle.jcard_why.proofs.maps.places_at.Given as goal

abbrev pub decreases-loop-line : goal.decreases-loop-line
decreases-loop-line l = length l.rest
