use Rattle.jc_api_ciphers.proofs.Deciphered.{lent_message_within}
use Rattle.jc_api_ciphers.proofs.cipher.rsa.encodings.message_within.Goals as goal

pub returns-clause-within : goal.returns-clause-within
returns-clause-within c = lent_message_within c.args.padding c.args.encoding.now c.message_of.result c.message_of.ensures
