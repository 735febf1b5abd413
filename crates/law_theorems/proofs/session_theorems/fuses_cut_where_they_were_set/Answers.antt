use Rattle.law_theorems.proofs.Fuse.{fuses_cut}
use Rattle.law_theorems.proofs.session_theorems.fuses_cut_where_they_were_set.Goals as goal

pub returns : goal.returns
returns c = fuses_cut
