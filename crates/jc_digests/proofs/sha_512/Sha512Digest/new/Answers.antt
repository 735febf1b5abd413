use Rattle.sha2.specs.Sha512.{compress, initial_hash_512}
use Rattle.jc_digests.proofs.Pieces.{none_128}
use Rattle.jc_digests.proofs.sha_512.Sha512Digest.new.Goals as goal

pub returns : goal.returns
returns c = none_128 compress initial_hash_512 _
