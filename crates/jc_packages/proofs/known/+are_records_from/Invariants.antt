-- the records that are left
use Rattle.std.proofs.Common.{length}
use Rattle.jc_packages.proofs.known.+are_records_from.Given as goal

abbrev pub decreases-are_records_from : goal.decreases-are_records_from
decreases-are_records_from g l = length l.records.now
