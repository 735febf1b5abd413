use Rattle.law_code.proofs.ClassLaws.{have_fields}
use Rattle.law_code.proofs.class_laws.fields_are_cells_of_their_kind.Goals as goal

pub returns : goal.returns
returns c = have_fields
