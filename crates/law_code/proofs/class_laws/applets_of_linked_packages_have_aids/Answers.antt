use Rattle.law_code.proofs.Aids.{have_aids}
use Rattle.law_code.proofs.class_laws.applets_of_linked_packages_have_aids.Goals as goal

pub returns : goal.returns
returns c = have_aids
