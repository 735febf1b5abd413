use Rattle.law_soundness.proofs.GrowthRecords.{records_are_read}
use Rattle.law_soundness.proofs.growth_laws.packages_that_were_read_are_linked.Goals as goal

pub returns : goal.returns
returns c = records_are_read
