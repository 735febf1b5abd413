use Rattle.std.proofs.Common.{◌≡◌, subst, sym}
use Rattle.jc_api.specs.Exits.{plainly}
use Rattle.jc_api.proofs.Plain.{bytes_plain}
use Rattle.jc_api.proofs.arguments.header_of.Goals as goal

pub returns-clause-plain : goal.returns-clause-plain
returns-clause-plain g c = subst (λ r. plainly r ≡ r) (sym c.bytes_argument.ensures.header) (bytes_plain _ _)
