use Rattle.std.proofs.Common.{None, Ok, ap, ◌∙◌}
use Rattle.jc_interp.proofs.Runs.{not_ended}
use Rattle.jc_interp.proofs.run.run_of.Goals as goal

pub returns-in-None : goal.returns-in-None
returns-in-None g c = not_ended c.run_budget.result c.args.budget.now.attack c.args.budget.now.left None c.args.lent.now c.args.linked.now c.args.frames.now
    c.run_budget.new.frames c.args.memory.now c.run_budget.new.memory (c.in_ok-end.was ∙ ap (λ e. Ok e) c.in-None.is) c.run_budget.ensures
