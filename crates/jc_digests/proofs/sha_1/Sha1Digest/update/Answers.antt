use Rattle.sha1.specs.Sha1.{initial_hash}
use Rattle.jc_digests.proofs.sha_1.Sha1Digest.update.Goals as goal

pub returns : goal.returns
returns c = λ m held. c.update_64.ensures initial_hash m held
