use Rattle.jc_ciphers.proofs.DesInverses.{enciphered}
use Rattle.jc_ciphers.proofs.des_laws.enciphering_undoes_deciphering.Goals as goal

pub returns : goal.returns
returns c = enciphered
