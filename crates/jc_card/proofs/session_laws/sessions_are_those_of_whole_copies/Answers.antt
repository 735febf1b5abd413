use Rattle.jc_card.proofs.WholeSessions.{are_whole}
use Rattle.jc_card.proofs.session_laws.sessions_are_those_of_whole_copies.Goals as goal

pub returns : goal.returns
returns c = are_whole
