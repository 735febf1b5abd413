use Rattle.jc_cap.specs.ClassRefs.{class_ref_at}
use Rattle.jc_cap.specs.Grammar.{IsClassRef}
use Rattle.jc_cap.proofs.Telling.{class_ref_tells}
use Rattle.jc_cap.proofs.Wholes.{whole_takes, whole_again}
use Rattle.jc_cap.proofs.grammar.wholes_are_told.Goals as goal

pub returns : goal.returns
returns c = λ info x. (whole_takes class_ref_at IsClassRef class_ref_tells info x, whole_again class_ref_at IsClassRef class_ref_tells info x)
