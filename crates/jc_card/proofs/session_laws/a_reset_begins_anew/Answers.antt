use Rattle.jc_card.proofs.WholeSessions.{begin_anew}
use Rattle.jc_card.proofs.session_laws.a_reset_begins_anew.Goals as goal

pub returns : goal.returns
returns c = begin_anew
