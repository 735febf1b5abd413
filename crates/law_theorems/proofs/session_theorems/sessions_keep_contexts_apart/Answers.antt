use Rattle.law_theorems.proofs.Isolation.{apart}
use Rattle.law_theorems.proofs.session_theorems.sessions_keep_contexts_apart.Goals as goal

pub returns : goal.returns
returns c = apart
