use Rattle.std.proofs.Common.{◌∙◌, ap}
use Rattle.jc_cap.specs.ClassValues.{offsets_of}
use Rattle.jc_cap.specs.ClassReading.{is_among}
use Rattle.jc_cap.proofs.classes.Classes.begins_record.Goals as goal

pub returns : goal.returns
returns c = c.is_among.ensures ∙ ap (is_among c.args.offset) (c.as_slice.ensures.value ∙ c.self.invariant.1 ∙ ap offsets_of c.self.view_is)
