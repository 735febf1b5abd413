use Rattle.jc_ciphers.proofs.MacPieces.{macs_of_the_whole}
use Rattle.jc_ciphers.proofs.laws.macs_are_of_the_whole.Goals as goal

pub returns : goal.returns
returns c = macs_of_the_whole
