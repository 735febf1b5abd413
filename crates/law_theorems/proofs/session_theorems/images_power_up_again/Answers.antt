use Rattle.law_theorems.proofs.SessionStores.{again}
use Rattle.law_theorems.proofs.session_theorems.images_power_up_again.Goals as goal

pub returns : goal.returns
returns c = again
