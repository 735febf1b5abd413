use Rattle.std.proofs.Common.{refl, subst}
use Rattle.jcard_test.specs.Tests.{IsOutcome}
use Rattle.jcard_test.proofs.testing.tested_cards.Goals as goal

pub returns : goal.returns
returns g c = (refl, refl, subst (λ cs. IsOutcome c.args.plan.now cs c.in_ok-outcome.outcome) c.deref.ensures.value c.in_ok-outcome.ensures)
