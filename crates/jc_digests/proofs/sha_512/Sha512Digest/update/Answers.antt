use Rattle.sha2.specs.Sha512.{initial_hash_512}
use Rattle.jc_digests.proofs.sha_512.Sha512Digest.update.Goals as goal

pub returns : goal.returns
returns c = λ m held. c.update_128.ensures initial_hash_512 m held
