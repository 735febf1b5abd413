use Rattle.jc_ciphers.proofs.AesInverses.{undoing}
use Rattle.jc_ciphers.proofs.aes_laws.deciphering_undoes_enciphering.Goals as goal

pub returns : goal.returns
returns c = undoing
