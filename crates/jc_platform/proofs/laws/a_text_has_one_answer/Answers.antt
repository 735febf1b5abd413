use Rattle.jc_platform.proofs.OneAnswer.{no_fault, one_fault, one_table}
use Rattle.jc_platform.proofs.laws.a_text_has_one_answer.Goals as goal

pub returns-clause-table_or_fault : goal.returns-clause-table_or_fault
returns-clause-table_or_fault c = no_fault

pub returns-clause-one_table : goal.returns-clause-one_table
returns-clause-one_table c = one_table

pub returns-clause-one_fault : goal.returns-clause-one_fault
returns-clause-one_fault c = one_fault
