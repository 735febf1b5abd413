use Rattle.std.proofs.Common.{ℕ, subst}
use Rattle.jcard_outcomes.specs.Failure.{IsFailureAt}
use Rattle.jcard_outcomes.proofs.failure.first_failure.Goals as goal

pub returns : goal.returns
returns c = (
  c.in-Some.unlike.row,
  c.in-Some.unlike.told.now,
  c.index-rows-unlike.result,
  c.in-Some.ensures.told,
  c.index-rows-unlike.is,
  subst (λ (n : ℕ). IsFailureAt c.index-rows-unlike.result n c.in-Some.unlike.told.now c.in_ok-failure.failure) c.saturating_add-passed.ensures c.in_ok-failure.ensures,
)
