use Rattle.std.proofs.Common.{◌+◌, length}
use Rattle.jcard_outcomes.proofs.answers.+fits.Given as goal

abbrev pub decreases-fits : goal.decreases-fits
decreases-fits l = length l.wanted.now + length l.told.now
