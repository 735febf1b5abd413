use Rattle.jc_ciphers.proofs.ModeInverses.{cbc_undone}
use Rattle.jc_ciphers.proofs.laws.cbc_is_undone.Goals as goal

pub returns : goal.returns
returns c = cbc_undone
