use Rattle.std.proofs.Common.{[], false, refl}
use Rattle.jcard_texts.proofs.Known.{appends_same}
use Rattle.jcard_files.proofs.fault.tell.Goals as goal

pub returns-in_default-clause-line : goal.returns-in_default-clause-line
returns-in_default-clause-line g c = rw c.in_default.is ([], false, appends_same _, (refl, refl), refl)
