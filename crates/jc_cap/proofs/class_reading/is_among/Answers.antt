use Rattle.std.proofs.Common.{◌∙◌}
use Rattle.jc_cap.proofs.Among.{any_among}
use Rattle.jc_cap.proofs.class_reading.is_among.Goals as goal

pub returns : goal.returns
returns c = c.contains.ensures.value ∙ any_among c.args.offset c.args.before.now
