use Rattle.md5.specs.Md5.{compress, initial_hash}
use Rattle.jc_digests.proofs.Pieces.{none_64}
use Rattle.jc_digests.proofs.md_5.Md5Digest.new.Goals as goal

pub returns : goal.returns
returns c = none_64 compress initial_hash _
