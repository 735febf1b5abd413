use Rattle.law_code.proofs.MethodLaws.{have_methods}
use Rattle.law_code.proofs.method_laws.linked_packages_know_their_methods.Goals as goal

pub returns : goal.returns
returns c = have_methods
