use Rattle.std.proofs.Common.{length}
use Rattle.jc_cap.proofs.fitting.+applets_fit.Given as goal

abbrev pub decreases-applets_fit : goal.decreases-applets_fit
decreases-applets_fit l = length l.applets.now
