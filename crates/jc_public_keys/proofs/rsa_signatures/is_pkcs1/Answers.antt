use Rattle.jc_public_keys.proofs.Encodings.{pkcs1_tested}
use Rattle.jc_public_keys.proofs.rsa_signatures.is_pkcs1.Goals as goal

pub returns : goal.returns
returns c = pkcs1_tested c.args.hash c.args.digest.now c.args.encoding.now c.is_encoding_of_digest.result c.is_encoding_of_digest.ensures
