use Rattle.std.proofs.Common.{arith}
use Rattle.jc_ciphers.proofs.AesTables.{slice_index-DOUBLED_SUBSTITUTES}
use Rattle.jc_ciphers.proofs.aes_field.doubled_substitute.Goals as goal

pub returns : goal.returns
returns c = slice_index-DOUBLED_SUBSTITUTES c.args.b (omega arith)
