use Rattle.jc_rsa.proofs.PssBlocks.{cleared-is}
use Rattle.jc_public_keys.proofs.random_numbers.clear.Goals as goal

pub returns : goal.returns
returns c = cleared-is c.args.spare c.args.bytes.now
