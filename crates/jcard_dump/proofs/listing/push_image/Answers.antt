use Rattle.std.proofs.Common.{◌≡◌, ◌∙◌, ap, subst}
use Rattle.jcard_dump.specs.Fault.{Lists}
use Rattle.jcard_dump.specs.Image.{ListedImage, hiding, keys_in}
use Rattle.jcard_dump.specs.Listing.{image_lines}
use Rattle.jcard_dump.proofs.listing.push_image.Goals as goal

pub returns : goal.returns
returns g c =
    let i = c.args.image.now in
    let same : c.hiding.result ≡ hiding i (keys_in i c.args.secrets) = c.hiding.ensures ∙ ap (hiding i) (c.deref.ensures.value ∙ c.in_ok-keys.ensures) in
    subst (λ (j : ListedImage). Lists c.args.text.now.items c.push_contents.new.text.items (image_lines j) c.push_contents.result) same c.push_contents.ensures
