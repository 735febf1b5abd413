-- the objects that are left
use Rattle.std.proofs.Common.{length}
use Rattle.jc_card.proofs.fixed.+add_headers.Given as goal

abbrev pub decreases-add_headers : goal.decreases-add_headers
decreases-add_headers l = length l.objects.now
