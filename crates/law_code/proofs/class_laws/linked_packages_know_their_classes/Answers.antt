use Rattle.law_code.proofs.ClassLaws.{have_classes}
use Rattle.law_code.proofs.class_laws.linked_packages_know_their_classes.Goals as goal

pub returns : goal.returns
returns c = have_classes
