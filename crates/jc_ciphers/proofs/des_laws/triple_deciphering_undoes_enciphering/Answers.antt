use Rattle.jc_ciphers.proofs.DesInverses.{triple_deciphered}
use Rattle.jc_ciphers.proofs.des_laws.triple_deciphering_undoes_enciphering.Goals as goal

pub returns : goal.returns
returns c = triple_deciphered
