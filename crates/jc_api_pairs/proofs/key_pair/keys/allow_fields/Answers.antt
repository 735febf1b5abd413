use Rattle.std.proofs.Common.{◌≡◌, subst, sym}
use Rattle.jc_api.specs.Exits.{plainly}
use Rattle.jc_api.proofs.Exits.{plain_firewall}
use Rattle.jc_api.proofs.Plain.{plainly_same}
use Rattle.jc_api_pairs.proofs.key_pair.keys.allow_fields.Goals as goal

pub returns-clause-plain : goal.returns-clause-plain
returns-clause-plain g c = subst (λ r. plainly r ≡ r) (sym c.allow.ensures) (plainly_same _ (plain_firewall _ _ _ _))
