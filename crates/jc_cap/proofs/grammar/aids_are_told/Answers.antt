use Rattle.jc_cap.proofs.Telling.{aid_tells}
use Rattle.jc_cap.proofs.grammar.aids_are_told.Goals as goal

pub returns : goal.returns
returns c = aid_tells
