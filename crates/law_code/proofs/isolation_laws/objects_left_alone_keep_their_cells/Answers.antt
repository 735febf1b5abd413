use Rattle.law_code.proofs.ObjectsOutside.{are_sparing}
use Rattle.law_code.proofs.isolation_laws.objects_left_alone_keep_their_cells.Goals as goal

pub returns : goal.returns
returns c = are_sparing
