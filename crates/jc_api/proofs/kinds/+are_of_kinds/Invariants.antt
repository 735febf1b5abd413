use Rattle.std.proofs.Common.{length}
use Rattle.jc_api.proofs.kinds.+are_of_kinds.Given as goal

abbrev pub decreases-are_of_kinds : goal.decreases-are_of_kinds
decreases-are_of_kinds g l = length l.kinds.now
