use Rattle.law_theorems.proofs.CardsAtRest.{stores_come}
use Rattle.law_theorems.proofs.Eventful.{eventful}
use Rattle.law_theorems.proofs.Witness.{new_stores_serve, witnesses}
use Rattle.law_theorems.proofs.session_theorems.premises_can_be_met.Goals as goal

pub returns-clause-witnesses : goal.returns-clause-witnesses
returns-clause-witnesses c = witnesses

pub returns-clause-new_stores : goal.returns-clause-new_stores
returns-clause-new_stores c = new_stores_serve

pub returns-clause-stores : goal.returns-clause-stores
returns-clause-stores c = stores_come

pub returns-clause-eventful : goal.returns-clause-eventful
returns-clause-eventful c = eventful
