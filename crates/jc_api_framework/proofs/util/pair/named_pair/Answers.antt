use Rattle.jc_api_framework.proofs.UtilCalls.Fitting.{all_fit}
use Rattle.jc_api_framework.proofs.util.pair.named_pair.Goals as goal

pub returns-clause-fits : goal.returns-clause-fits
returns-clause-fits g c = all_fit _ _ c.pair_of.result c.pair_of.ensures.count c.pair_of.ensures.asked
