use Rattle.law_theorems.proofs.SessionStores.{whole}
use Rattle.law_theorems.proofs.session_theorems.sessions_without_refused_writes_are_of_whole_copies.Goals as goal

pub returns : goal.returns
returns c = whole
