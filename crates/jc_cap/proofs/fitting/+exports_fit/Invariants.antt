use Rattle.std.proofs.Common.{length}
use Rattle.jc_cap.proofs.fitting.+exports_fit.Given as goal

abbrev pub decreases-exports_fit : goal.decreases-exports_fit
decreases-exports_fit l = length l.exports.now
