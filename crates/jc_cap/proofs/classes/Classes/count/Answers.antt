use Rattle.std.proofs.Common.{◌∙◌, refl}
use Rattle.jc_cap.specs.ClassReading.{classes_of, records_or_none}
use Rattle.jc_cap.proofs.RecordWalk.{as_long}
use Rattle.jc_cap.proofs.classes.Classes.count.Goals as goal

pub returns : goal.returns
returns c = c.len.ensures.value ∙ as_long c.self.inside.offsets.items c.self.inside.offsets.items
    (records_or_none (classes_of c.self.inside.format c.self.inside.info.now)) c.args.self.now c.self.invariant.1 c.self.view_is refl
