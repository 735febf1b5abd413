use Rattle.std.proofs.Common.{◌∙◌}
use Rattle.jc_ciphers.proofs.DesHalves.{wide-is}
use Rattle.jc_ciphers.proofs.des.wide.Goals as goal

pub returns : goal.returns
returns c = λ f bits is. wide-is f c.from-right.result bits (c.from-right.ensures ∙ is)
