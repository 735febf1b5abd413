use Rattle.jc_card.proofs.WholeSessions.{down_tells}
use Rattle.jc_card.proofs.session_laws.down_is_answered_for_a_refused_write.Goals as goal

pub returns : goal.returns
returns c = down_tells
