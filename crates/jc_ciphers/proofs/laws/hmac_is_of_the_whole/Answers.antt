use Rattle.jc_ciphers.proofs.HmacPieces.{hmac_of_the_whole}
use Rattle.jc_ciphers.proofs.laws.hmac_is_of_the_whole.Goals as goal

pub returns : goal.returns
returns c = hmac_of_the_whole
