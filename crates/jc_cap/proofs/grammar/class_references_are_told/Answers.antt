use Rattle.jc_cap.proofs.Telling.{class_ref_tells}
use Rattle.jc_cap.proofs.grammar.class_references_are_told.Goals as goal

pub returns : goal.returns
returns c = class_ref_tells
