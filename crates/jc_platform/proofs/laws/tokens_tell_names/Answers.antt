use Rattle.jc_platform.proofs.NamesTold.{names_told}
use Rattle.jc_platform.proofs.laws.tokens_tell_names.Goals as goal

pub returns : goal.returns
returns c = names_told
