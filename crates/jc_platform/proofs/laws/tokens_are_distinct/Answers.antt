use Rattle.jc_platform.proofs.Distinct.{distinct}
use Rattle.jc_platform.proofs.laws.tokens_are_distinct.Goals as goal

pub returns : goal.returns
returns c = distinct
