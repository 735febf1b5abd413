use Rattle.law_code.proofs.Runs.{isolated}
use Rattle.law_code.proofs.isolation_laws.contexts_are_isolated.Goals as goal

pub returns : goal.returns
returns c = isolated
