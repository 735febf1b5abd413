use Rattle.jc_cap.proofs.Telling.{package_tells}
use Rattle.jc_cap.proofs.grammar.packages_are_told.Goals as goal

pub returns : goal.returns
returns c = package_tells
