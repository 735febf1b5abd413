use Rattle.jc_rsa.proofs.Headings.{more_said}
use Rattle.jc_rsa.proofs.iso_9796.says_more.Goals as goal

pub returns : goal.returns
returns c = λ more n rest some is. more_said more n rest c.args.encoding.now some is
