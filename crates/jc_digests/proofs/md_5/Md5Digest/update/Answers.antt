use Rattle.md5.specs.Md5.{initial_hash}
use Rattle.jc_digests.proofs.md_5.Md5Digest.update.Goals as goal

pub returns : goal.returns
returns c = λ m held. c.update_64.ensures initial_hash m held
