use Rattle.law_code.proofs.ClassLaws.{have_receivers}
use Rattle.law_code.proofs.class_laws.methods_of_the_platform_are_reached_by_their_classes.Goals as goal

pub returns : goal.returns
returns c = have_receivers
