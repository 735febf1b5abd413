use Rattle.std.proofs.Common.{◌/◌, ◌==◌, ◌∙◌, sym}
use Rattle.jc_image.proofs.Filling.{object_lies}
use Rattle.jc_image.proofs.areas.is_in_area.Goals as goal

pub returns : goal.returns
returns g c =
    (λ i. (c.read.ensures i) / 256 == c.number_of.ensures i)
    ∙ sym (object_lies c.args.journal.now.plain c.args.at c.args.event c.requires.bounds.fits c.requires.here c.requires.small
    c.requires.object)
