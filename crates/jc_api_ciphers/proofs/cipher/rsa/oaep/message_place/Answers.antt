use Rattle.jc_api_ciphers.proofs.OaepMessages.{told}
use Rattle.jc_api_ciphers.proofs.cipher.rsa.oaep.message_place.Goals as goal

pub returns : goal.returns
returns c = told c.decode.result c.decode.new.encoding c.args.encoding.now c.decode.ensures
