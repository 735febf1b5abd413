use Rattle.std.proofs.Common.{◌+◌, None}
use Rattle.jc_interp.proofs.Advances.{none_away}
use Rattle.jc_interp.proofs.Runs.{none_more}
use Rattle.jc_interp.proofs.run.run_budget.Goals as goal

pub returns-in-None : goal.returns-in-None
returns-in-None g c = rw c.in-None.is (none_more c.run_whole.result None c.args.budget.now.left None c.args.lent.now c.args.linked.now c.args.frames.now
    c.run_whole.new.frames c.args.memory.now c.run_whole.new.memory (c.run_whole.ensures None (none_away (c.args.budget.now.left + 0) 0)))
