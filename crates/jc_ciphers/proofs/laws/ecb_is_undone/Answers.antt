use Rattle.jc_ciphers.proofs.ModeInverses.{ecb_undone}
use Rattle.jc_ciphers.proofs.laws.ecb_is_undone.Goals as goal

pub returns : goal.returns
returns c = ecb_undone
