use Rattle.law_code.proofs.MethodLaws.{have_no_code}
use Rattle.law_code.proofs.method_laws.classes_of_the_platform_have_no_code.Goals as goal

pub returns : goal.returns
returns c = have_no_code
