use Rattle.std.proofs.Common.{arith}
use Rattle.jc_numbers.specs.Numbers.{value}
use Rattle.std.proofs.Math.Facts.{Fits-lt-pow}
use Rattle.jc_curves.proofs.SignatureLaws.{digest_law}
use Rattle.jc_curves.proofs.signatures.number_of_digest.Goals as goal

pub returns : goal.returns
returns c =
    digest_law c.args.digest.now (value c.number_of-front.result.limbs) (value c.halved.result.limbs) c.args.bits c.div_ceil-size.result
    (λ k. Fits-lt-pow (c.type_inv.digest k)) (omega arith) (omega arith) c.number_of-front.ensures.number c.halved.ensures
