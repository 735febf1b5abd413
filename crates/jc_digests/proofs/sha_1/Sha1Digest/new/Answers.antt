use Rattle.sha1.specs.Sha1.{compress, initial_hash}
use Rattle.jc_digests.proofs.Pieces.{none_64}
use Rattle.jc_digests.proofs.sha_1.Sha1Digest.new.Goals as goal

pub returns : goal.returns
returns c = none_64 compress initial_hash _
