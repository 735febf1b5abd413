use Rattle.jc_cap.specs.ClassRefs.{class_ref_at}
use Rattle.jc_cap.specs.Grammar.{IsClassRef}
use Rattle.jc_cap.proofs.Telling.{class_ref_tells, many_takes, many_again}
use Rattle.jc_cap.proofs.grammar.lists_are_told.Goals as goal

pub returns : goal.returns
returns c = (many_takes class_ref_at IsClassRef class_ref_tells, many_again class_ref_at IsClassRef class_ref_tells)
