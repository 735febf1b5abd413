use Rattle.std.proofs.Common.{◌≡◌, subst, sym}
use Rattle.jc_api.specs.Exits.{plainly}
use Rattle.jc_api.proofs.InitializingCalls.{plain_called}
use Rattle.jc_api.proofs.Plain.{plainly_same}
use Rattle.jc_api.proofs.keeping.receiver_called.Goals as goal

pub returns-clause-plain : goal.returns-clause-plain
returns-clause-plain g c = subst (λ r. plainly r ≡ r) (sym c.instance_called.ensures.receiver) (plainly_same _ (plain_called _ _ _ _ _))
