use Rattle.law_theorems.proofs.Tears.{cuts_named}
use Rattle.law_theorems.proofs.session_theorems.cuts_that_are_told_are_those_that_the_law_names.Goals as goal

pub returns : goal.returns
returns c = cuts_named
