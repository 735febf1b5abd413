use Rattle.std.proofs.Common.{rules}
use Rattle.jcard_test.proofs.CardSteps.{no_sweep}
use Rattle.jcard_test.proofs.cards.sweep_in.Goals as goal

pub returns-in_default : goal.returns-in_default
returns-in_default c = no_sweep c.args.command.now (search rules) (λ rest e. c.in_default.ensures.cases rest e)
