use Rattle.law_code.proofs.Plain.{are_plain}
use Rattle.law_code.proofs.method_laws.tables_without_the_line_have_no_further_names.Goals as goal

pub returns : goal.returns
returns c = are_plain
