use Rattle.jc_public_keys.proofs.Messages.{told}
use Rattle.jc_public_keys.proofs.rsa_ciphers.pkcs1_message.Goals as goal

pub returns : goal.returns
returns c = told c.decode.result (λ m. m.now) c.args.encoding.now c.decode.ensures
