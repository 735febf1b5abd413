use Rattle.law_theorems.proofs.Cuts.{cuts_leave, done_stays}
use Rattle.law_theorems.proofs.session_theorems.a_cut_leaves_the_changes_before_it.Goals as goal

pub returns-clause-cut : goal.returns-clause-cut
returns-clause-cut c = cuts_leave

pub returns-clause-stays : goal.returns-clause-stays
returns-clause-stays c = done_stays
