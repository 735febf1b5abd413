use Rattle.std.proofs.Common.{ℕ, subst}
use Rattle.jc_objects.specs.Places.{IsPlaceFor}
use Rattle.jcard_dump.specs.Image.{ListedImage}
use Rattle.jcard_dump.proofs.image.Image.first_place.Goals as goal

pub returns : goal.returns
returns g c = subst (λ (i : ListedImage). (address : ℕ) → IsPlaceFor i.words c.first_place.result address) c.self.view_is c.first_place.ensures
