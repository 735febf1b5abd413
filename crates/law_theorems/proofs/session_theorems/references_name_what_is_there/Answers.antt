use Rattle.law_theorems.proofs.References.{name_objects}
use Rattle.law_theorems.proofs.session_theorems.references_name_what_is_there.Goals as goal

pub returns : goal.returns
returns c = name_objects
