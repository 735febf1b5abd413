use Rattle.std.proofs.Common.{◌∙◌, arith}
use Rattle.jc_curves.proofs.DerLaws.{zero_passed}
use Rattle.jc_public_keys.proofs.ecdsa.significant.Goals as goal

pub zeros-preserved : goal.zeros-preserved
zeros-preserved c = zero_passed c.args.bytes.now c.zeros.i (omega arith) (omega arith) ∙ c.zeros.invariant
