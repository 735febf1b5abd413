use Rattle.sha2.specs.Sha256.{initial_hash_224}
use Rattle.jc_digests.proofs.sha_256.Sha224Digest.update.Goals as goal

pub returns : goal.returns
returns c = λ m held. c.update_64.ensures initial_hash_224 m held
