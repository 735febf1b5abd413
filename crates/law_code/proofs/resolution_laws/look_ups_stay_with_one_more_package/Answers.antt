use Rattle.law_code.proofs.ResolutionLaws.{adding_keeps}
use Rattle.law_code.proofs.resolution_laws.look_ups_stay_with_one_more_package.Goals as goal

pub returns : goal.returns
returns c = adding_keeps
