use Rattle.std.proofs.Common.{length}
use Rattle.jc_api.proofs.kinds.+are_numbers.Given as goal

abbrev pub decreases-are_numbers : goal.decreases-are_numbers
decreases-are_numbers l = length l.kinds.now
