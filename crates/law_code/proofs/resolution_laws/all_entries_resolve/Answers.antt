use Rattle.law_code.proofs.ResolutionLaws.{all_resolve}
use Rattle.law_code.proofs.resolution_laws.all_entries_resolve.Goals as goal

pub returns : goal.returns
returns c = all_resolve
