use Rattle.jcard_outcomes.proofs.RecoveryReports.{cut_read, left_in_one_line, no_recovered}
use Rattle.jcard_outcomes.proofs.line.cut_of.Goals as goal

pub returns-in_default : goal.returns-in_default
returns-in_default c = no_recovered c.args.told.now c.in_default.ensures

pub cut_with-requires : goal.cut_with-requires
cut_with-requires c = left_in_one_line c.args.told.now c.in-Some.left.now c.in-Some.recoveries c.in-Some.ensures.0 c.requires

pub returns : goal.returns
returns c = cut_read c.args.told.now c.in-Some.left.now c.in-Some.recoveries c.cut_with.result c.in-Some.ensures.0 c.in-Some.ensures.1 c.in-Some.ensures.2 c.cut_with.ensures
