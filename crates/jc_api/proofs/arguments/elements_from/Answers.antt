use Rattle.std.proofs.Common.{◌≡◌, subst, sym}
use Rattle.jc_api.specs.Exits.{plainly}
use Rattle.jc_api.proofs.Plain.{elements_plain, ok_asked}
use Rattle.jc_api.proofs.arguments.elements_from.Goals as goal

pub returns-clause-asked : goal.returns-clause-asked
returns-clause-asked g c = ok_asked _ _ _ _ _ _ c.elements.result c.requires.header c.elements.ensures.stretch

pub returns-clause-plain : goal.returns-clause-plain
returns-clause-plain g c = subst (λ r. plainly r ≡ r) (sym c.elements.ensures.stretch) (elements_plain _ _ _ _ _ _)
