use Rattle.law_theorems.proofs.SessionStores.{tells}
use Rattle.law_theorems.proofs.session_theorems.down_tells_of_refused_writes.Goals as goal

pub returns : goal.returns
returns c = tells
