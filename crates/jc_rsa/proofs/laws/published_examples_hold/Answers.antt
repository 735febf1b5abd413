use Rattle.jc_rsa.proofs.Examples.{oaep_holds, pss_holds}
use Rattle.jc_rsa.proofs.laws.published_examples_hold.Goals as goal

pub returns : goal.returns
returns c = record { oaep_example = oaep_holds; pss_example = pss_holds }
