use Rattle.law_theorems.proofs.TakenBack.{taken_back}
use Rattle.law_theorems.proofs.session_theorems.sessions_take_back_what_is_not_committed.Goals as goal

pub returns : goal.returns
returns c = taken_back
