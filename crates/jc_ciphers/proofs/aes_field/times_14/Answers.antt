use Rattle.std.proofs.Common.{arith}
use Rattle.jc_ciphers.proofs.AesTables.{slice_index-MULTIPLES_14}
use Rattle.jc_ciphers.proofs.aes_field.times_14.Goals as goal

pub returns : goal.returns
returns c = slice_index-MULTIPLES_14 c.args.b (omega arith)
