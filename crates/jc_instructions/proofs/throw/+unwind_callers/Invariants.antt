use Rattle.std.proofs.Common.{length}
use Rattle.jc_instructions.proofs.throw.+unwind_callers.Given as goal

abbrev pub decreases-unwind_callers : goal.decreases-unwind_callers
decreases-unwind_callers g l = length l.frames.now.callers
