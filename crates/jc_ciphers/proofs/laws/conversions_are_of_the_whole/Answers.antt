use Rattle.jc_ciphers.proofs.WholeConversions.{of_the_whole}
use Rattle.jc_ciphers.proofs.laws.conversions_are_of_the_whole.Goals as goal

pub returns : goal.returns
returns c = of_the_whole
