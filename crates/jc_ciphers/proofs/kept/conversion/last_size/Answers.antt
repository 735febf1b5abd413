use Rattle.jc_ciphers.proofs.Ready.{last_size-some}
use Rattle.jc_ciphers.proofs.kept.conversion.last_size.Goals as goal

pub returns-then-used-ne0 : goal.returns-then-used-ne0
returns-then-used-ne0 c = last_size-some c.args.size c.args.came c.args.used c.requires c.if-used-ne0.true
