use Rattle.std.proofs.Common.{◌≡◌, subst, sym}
use Rattle.jc_api.specs.Exits.{plainly}
use Rattle.jc_api.proofs.Exits.{plain_instance}
use Rattle.jc_api.proofs.Plain.{plainly_same}
use Rattle.jc_api_ciphers.proofs.initialized.keyed_instance.Goals as goal

pub returns-clause-plain : goal.returns-clause-plain
returns-clause-plain g c = subst (λ r. plainly r ≡ r) (sym c.instance.ensures.header) (plainly_same _ (plain_instance _ _ _))
