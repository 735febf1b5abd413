use Rattle.std.proofs.Common.{length}
use Rattle.jcard_outcomes.proofs.answers.+behind_spaces.Given as goal

abbrev pub decreases-behind_spaces : goal.decreases-behind_spaces
decreases-behind_spaces l = length l.text.now
