use Rattle.jc_rsa.proofs.PssBlocks.{cleared-is}
use Rattle.jc_rsa.proofs.emsa_pss.clear.Goals as goal

pub returns : goal.returns
returns c = cleared-is c.args.spare c.args.bytes.now
