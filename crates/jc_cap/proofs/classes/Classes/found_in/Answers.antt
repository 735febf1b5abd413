use Rattle.std.proofs.Common.{◌∙◌}
use Rattle.jc_cap.specs.ClassReading.{classes_of}
use Rattle.jc_cap.proofs.Found.{records_read}
use Rattle.jc_cap.proofs.classes.Classes.found_in.Goals as goal

pub invariant_of-result : goal.invariant_of-result
invariant_of-result c = (records_read (classes_of c.args.format c.args.info.now) c.requires.readable, c.copy_of.ensures ∙ c.requires.offsets)

pub returns : goal.returns
returns c = records_read (classes_of c.args.format c.args.info.now) c.requires.readable
