use Rattle.jc_rsa.proofs.WholeModuli.{product_whole}
use Rattle.jc_rsa.proofs.laws.moduli_are_whole.Goals as goal

pub returns : goal.returns
returns c = record { product = product_whole }
