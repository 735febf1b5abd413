use Rattle.std.proofs.Common.{subst}
use Rattle.jcard_files.specs.NewImage.{IsNewImageInMemory}
use Rattle.jcard_test.proofs.RowTests.{new_card_of}
use Rattle.jcard_test.proofs.answering.new_card.Goals as goal

pub returns-in-Ok : goal.returns-in-Ok
returns-in-Ok c = new_card_of c.args.plan.now c.args.words c.new_image.result
    (subst (λ table. IsNewImageInMemory c.args.words c.args.plan.now.extent.room table c.new_image.result) c.deref-in-Ok.ensures.value c.new_image.ensures)
