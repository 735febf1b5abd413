use Rattle.jc_commit.proofs.WhatIsKept.{keeps_old_values}
use Rattle.jc_commit.proofs.keeping_law.what_changes_keep.Goals as goal

pub returns : goal.returns
returns c = keeps_old_values
