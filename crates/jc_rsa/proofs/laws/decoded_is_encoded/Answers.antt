use Rattle.jc_rsa.proofs.Encoded.{decoded}
use Rattle.jc_rsa.proofs.laws.decoded_is_encoded.Goals as goal

pub returns : goal.returns
returns c = decoded
