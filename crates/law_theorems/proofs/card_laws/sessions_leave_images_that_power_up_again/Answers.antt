use Rattle.jc_platform.proofs.OneAnswer.{one_table}
use Rattle.law_theorems.proofs.Faults.{end_well}
use Rattle.law_theorems.proofs.card_laws.sessions_leave_images_that_power_up_again.Goals as goal

pub returns : goal.returns
returns c = end_well one_table
