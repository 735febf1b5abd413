use Rattle.jc_card.proofs.Selections.{unselects}
use Rattle.jc_card.proofs.session_laws.selecting_the_manager_unselects.Goals as goal

pub returns : goal.returns
returns c = unselects
