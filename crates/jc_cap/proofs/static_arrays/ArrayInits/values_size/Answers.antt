use Rattle.std.proofs.Common.{◌∙◌, ap}
use Rattle.jc_cap.specs.StaticReading.{values_size}
use Rattle.jc_cap.proofs.static_arrays.ArrayInits.values_size.Goals as goal

pub returns : goal.returns
returns c = c.size_of_all.ensures ∙ ap values_size c.self.view_is
