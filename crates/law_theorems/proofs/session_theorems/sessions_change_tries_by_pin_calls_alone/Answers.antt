use Rattle.law_theorems.proofs.PinTries.{tries_change}
use Rattle.law_theorems.proofs.session_theorems.sessions_change_tries_by_pin_calls_alone.Goals as goal

pub returns : goal.returns
returns c = tries_change
