use Rattle.jc_ciphers.proofs.DesInverses.{deciphered}
use Rattle.jc_ciphers.proofs.des_laws.deciphering_undoes_enciphering.Goals as goal

pub returns : goal.returns
returns c = deciphered
