use Rattle.law_code.proofs.ClassLaws.{have_cells}
use Rattle.law_code.proofs.class_laws.instances_have_the_cells_of_the_platform.Goals as goal

pub returns : goal.returns
returns c = have_cells
