use Rattle.std.proofs.Common.{false}
use Rattle.std.proofs.lemmas.List.{length-replicate}
use Rattle.jc_image.proofs.Marking.{none_marked}
use Rattle.jc_image.proofs.marks.no_marks.Goals as goal

pub returns : goal.returns
returns c = record { none = none_marked 65536; long = length-replicate 65536 false }
