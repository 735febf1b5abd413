use Rattle.std.proofs.Common.{◌∙◌, subst, sym}
use Rattle.jc_memory.specs.Images.{AreImages}
use Rattle.jc_memory.proofs.KeptImages.{image_at}
use Rattle.jc_memory.proofs.images.Images.begin.Goals as goal

pub returns-then-image-address : goal.returns-then-image-address
returns-then-image-address c = λ h d images. image_at c.deref.result.now c.from.result c.in_ok-image.image.now c.args.owner h d
    c.in_ok-image.ensures.lookup.3.0 c.in_ok-image.ensures.lookup.1 (c.if-image-address.true ∙ c.address.ensures)
    (subst (λ l. AreImages l h d) (sym (c.deref.ensures.0 ∙ c.self.view_is)) images)
