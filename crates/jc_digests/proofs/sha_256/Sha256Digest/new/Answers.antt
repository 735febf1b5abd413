use Rattle.sha2.specs.Sha256.{compress, initial_hash_256}
use Rattle.jc_digests.proofs.Pieces.{none_64}
use Rattle.jc_digests.proofs.sha_256.Sha256Digest.new.Goals as goal

pub returns : goal.returns
returns c = none_64 compress initial_hash_256 _
